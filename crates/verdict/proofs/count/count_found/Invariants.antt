use mathlib.Core.Path.{◌≡◌}
use Rattle.wire.specs.Below.{count}
use Rattle.posting.specs.Raise.{hit_at}
use Rattle.verdict.proofs.count.count_found.Given as goal

abbrev pub invariant-loop-l : goal.invariant-loop-l
invariant-loop-l l = l.found ≡ count (hit_at l.places l.contracts) l.l
