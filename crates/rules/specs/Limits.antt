-- 02, K4, by 003 and 004, part two: when what a group holds on one side of a contract is over the limit.
use Rattle.std.specs.Prelude.{ℕ, Bool, ◌&&◌, ◌||◌, ltb, eqb}
use Rattle.rules.specs.declared.limit.Held.{Held}
use Rattle.rules.specs.declared.measure.Lots.{Lots}
use Rattle.rules.specs.declared.text.Text.{Text}

-- lots that are held
abbrev pub held : ℕ → Held
held n = record { 0 = n }

-- "above today's limit and, in rulebook 1, also above the previous one (003's sparing rule)"; equal is not above
abbrev pub over_limit : Text → Held → (today previous : Lots) → Bool
over_limit text sum today previous =
    (eqb text.rulebook 1 && ltb today.0 sum.0 && ltb previous.0 sum.0)
    || (eqb text.rulebook 2 && ltb today.0 sum.0)
