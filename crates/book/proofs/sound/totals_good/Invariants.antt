use mathlib.Core.Path.{◌≡◌}
use Prim.Native.Nat.{◌-◌, ◌≤◌}
use lib.Dec.{leb}
use Rattle.wire.specs.Below.{every}
use Rattle.book.specs.Layout.{total_at}
use Rattle.book.specs.Sound.{most_of}
use Rattle.book.proofs.sound.totals_good.Given as goal

abbrev pub invariant-loop-l : goal.invariant-loop-l
invariant-loop-l l =
    (l.l ≤ l.l-end) × (l.good ≡ every (λ k. leb (total_at l.b k) (most_of l.rulebook l.day k)) l.l)

abbrev pub decreases-loop-l : goal.decreases-loop-l
decreases-loop-l l = l.l-end - l.l
