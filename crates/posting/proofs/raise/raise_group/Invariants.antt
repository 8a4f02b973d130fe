use mathlib.Core.Path.{◌≡◌}
use Prim.Native.Nat.{◌-◌, ◌/◌, ◌≤◌}
use lib.ListN.{length}
use Rattle.wire.specs.Bytes.{bytes}
use Rattle.wire.specs.Buffers.{put, rows}
use Rattle.posting.proofs.WriteLaws.{total_after}
use Rattle.posting.proofs.raise.raise_group.Given as goal

abbrev pub invariant-loop-j : goal.invariant-loop-j
invariant-loop-j l =
    (l.j ≤ length l.initial.part / 2) × (length l.part ≡ length l.initial.part)
    × (l.part ≡ put l.initial.part 0
    (rows (λ k. bytes 2 (total_after l.initial.part l.later l.places l.from l.contracts k)) l.j))

abbrev pub decreases-loop-j : goal.decreases-loop-j
decreases-loop-j l = length l.initial.part / 2 - l.j
