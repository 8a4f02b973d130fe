use Rattle.verdict.specs.Verdict.{verdict_of, offends, found_at}
use Rattle.wire.specs.Buffers.{put, rows}
use Rattle.wire.specs.Below.{count}
use lib.ListN.{length}
use mathlib.Core.Path.{◌≡◌}
use Prim.Native.Nat.{◌-◌, ◌≤◌}
use Rattle.verdict.proofs.ruling.Ruling.list_all.Given as goal

abbrev pub invariant-loop-l : goal.invariant-loop-l
invariant-loop-l l =
    let v = verdict_of l.self in
    (l.l ≤ l.l-end) × (length l.out ≡ length l.initial.out) × (l.n ≡ count (offends v) l.l)
    × (l.out ≡ put l.initial.out 0 (rows (found_at v l.date l.book) l.l))

abbrev pub decreases-loop-l : goal.decreases-loop-l
decreases-loop-l l = l.l-end - l.l
