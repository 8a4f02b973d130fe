-- 01, "Ladders", and 02, K4: families, rungs and sanctions.
use Rattle.std.specs.Prelude.{ℕ, ◌+◌, ◌-◌, ◌%◌, Bool, ◌&&◌, ◌||◌, not, leb, eqb}
use Rattle.wire.specs.Choice.{pick}
use Rattle.rules.specs.declared.text.Text.{Text}
use Rattle.rules.specs.Codes.{is_rulebook, is_kind}
use Rattle.rules.specs.Choices.{by_three}

-- families are 0 to 15; a contract that no rulebook has is in none
abbrev pub no_family : ℕ
no_family = 16

-- "in rulebook 1, 0 for futures and 1 for options ..; in rulebook 2, the product"
unfoldable pub family : Text → (type' product : ℕ) → ℕ
family text type' product =
    pick (eqb text.rulebook 1) (by_three type' 0 1 no_family no_family)
    (pick (eqb text.rulebook 2 && eqb type' 1 && leb product 15) product no_family)

-- "The rung of total n is ((n-1) mod 3) + 1"; "The calls": "rung 0 for total 0"
unfoldable pub rung : ℕ → ℕ
rung total = pick (eqb total 0) 0 ((total - 1) % 3 + 1)

-- 02, K4: "watch list (2); no opening for 10 trading days (7); no opening for 6 months (8)", with a member or without
unfoldable pub limit_sanction : (rung' : ℕ) → ℕ
limit_sanction rung' = by_three rung' 2 7 8 0

-- "rung 1 is 1 (call), rung 2 is 2 (watch list), rung 3 is 3 (no opening, at least one month). In rulebook 1, a group
-- with a member among that day's accounts has 1, 4 (talk with managers), 5 (no opening, at least three months)". Kind 5
-- is a position over the limit; 0 is no sanction
unfoldable pub sanction : (rulebook kind rung' : ℕ) → (member : Bool) → ℕ
sanction rulebook kind rung' member =
    pick (eqb kind 5 && is_rulebook rulebook) (limit_sanction rung')
    (pick (not (is_kind kind && is_rulebook rulebook)) 0
    (pick (eqb rulebook 1 && member) (by_three rung' 1 4 5 0)
    (by_three rung' 1 2 3 0)))

-- the opening restrictions: "3 (no opening, at least one month)", "5 (no opening, at least three months)", and K4's 7
-- and 8
abbrev pub no_opening : ℕ → Bool
no_opening s = eqb s 3 || eqb s 5 || eqb s 7 || eqb s 8
