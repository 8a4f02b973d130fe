use mathlib.Core.Path.{◌≡◌}
use Rattle.wire.specs.Below.{every}
use Rattle.positions.specs.LimitEntries.{limited_good_at, id_before}
use Rattle.positions.proofs.contracts.limits_good.Given as goal

abbrev pub invariant-loop-entry : goal.invariant-loop-entry
invariant-loop-entry l = (l.before ≡ id_before l.part l.entry-index)
    × (l.good ≡ every (limited_good_at l.part) l.entry-index)
