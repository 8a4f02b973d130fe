use mathlib.Core.Path.{◌≡◌}
use lib.Dec.{leb}
use lib.ListN.{get_or}
use Rattle.wire.specs.Below.{every}
use Rattle.desk.proofs.closing.Closing.cells_good.Given as goal

abbrev pub invariant-loop-times : goal.invariant-loop-times
invariant-loop-times l = l.good ≡ every (λ k. leb (get_or l.self.counts.now k 0) l.self.day.taken) l.times-index
