-- 01, "Layouts": the codes that each rulebook has. A rulebook other than 1 and 2 has none.
use Rattle.std.specs.Prelude.{ℕ, Bool, ◌&&◌, ◌||◌, not, eqb}
use Rattle.wire.specs.Choice.{within}
use Rattle.rules.specs.declared.text.Text.{Text}

-- "What the desk judges": "Two rulebooks: 1 is DCE ..; 2 is CFFEX government bond futures"
abbrev pub is_rulebook : ℕ → Bool
is_rulebook rulebook = within 1 2 rulebook

-- contract entries: "type, 1 futures or 2 option (rulebook 2: only 1)"
abbrev pub has_type : Text → ℕ → Bool
has_type text type' =
    (eqb text.rulebook 1 && (eqb type' 1 || eqb type' 2)) || (eqb text.rulebook 2 && eqb type' 1)

-- "Instruction: 1 plain limit, 2 market, 3 stop, 4 arbitrage order, 5 FOK, 6 FAK; rulebook 2 has no 3 or 4"
abbrev pub has_instruction : Text → ℕ → Bool
has_instruction text instruction =
    within 1 6 instruction
    && (eqb text.rulebook 1 || (eqb text.rulebook 2 && not (eqb instruction 3 || eqb instruction 4)))

-- "Purpose: 1 ordinary, 2 hedge, 3 arbitrage, 4 market making"
abbrev pub has_purpose : Text → ℕ → Bool
has_purpose text purpose = within 1 4 purpose && is_rulebook text.rulebook

-- "What the desk judges": "1 self-trade, 2 frequent cancels, 3 large cancels"
abbrev pub is_kind : ℕ → Bool
is_kind kind = within 1 3 kind
