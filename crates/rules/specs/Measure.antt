-- 01, "What counts": "cancels are counted in times and order amounts in lots. One is never taken for the other."
use Rattle.std.specs.Prelude.{ℕ, ◌*◌, Bool, ◌&&◌, ◌||◌, leb, ltb, eqb}
use Rattle.wire.specs.Choice.{pick}
use Rattle.rules.specs.Choices.{by_three}
use Rattle.rules.specs.declared.measure.Lots.{Lots}
use Rattle.rules.specs.declared.measure.Times.{Times}
use Rattle.rules.specs.declared.text.Text.{Text}

-- an amount in lots, and a number of times
abbrev pub lots : ℕ → Lots
lots n = record { 0 = n }

abbrev pub times : ℕ → Times
times n = record { 0 = n }

-- "Large, rulebook 1: 5 × lots > 4 × largest order. Rulebook 2: 5 × lots ≥ 4 × largest order." Nothing is rounded.
abbrev pub large : Text → Lots → Lots → Bool
large text amount largest =
    (eqb text.rulebook 1 && ltb (4 * largest.0) (5 * amount.0))
    || (eqb text.rulebook 2 && leb (4 * largest.0) (5 * amount.0))

-- the table "Times on one contract in one day": self, frequent, large; 0 where the rulebook has no number
unfoldable pub enough : Text → ℕ → Times
enough text kind =
    times
    (pick (eqb text.rulebook 1) (by_three kind 5 500 400 0)
    (pick (eqb text.rulebook 2) (by_three kind 5 500 100 0)
    0))

-- "Reaching the number is enough." Where there is none, no number of times is.
abbrev pub reached : Times → Times → Bool
reached counted number = leb 1 number.0 && leb number.0 counted.0
