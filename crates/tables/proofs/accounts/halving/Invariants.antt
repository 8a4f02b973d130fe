use mathlib.Core.Path.{◌≡◌}
use Prim.Native.Nat.{◌+◌, ◌≤◌, ◌<◌}
use Rattle.tables.specs.Entries.{entries}
use Rattle.tables.specs.Way.{halve, halved}
use Rattle.tables.proofs.accounts.halving.Given as goal

abbrev pub invariant-loop-size : goal.invariant-loop-size
invariant-loop-size l =
    (0 < l.size) × (l.from + l.size ≤ entries l.part)
    × (halved l.part l.number ≡ halve (entries l.part) l.part l.number l.from l.size)

abbrev pub decreases-loop-size : goal.decreases-loop-size
decreases-loop-size l = l.size
