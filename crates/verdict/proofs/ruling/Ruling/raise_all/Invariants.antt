use Rattle.verdict.proofs.RaiseLaws.{group_bytes}
use Rattle.wire.specs.Buffers.{put, rows}
use lib.ListN.{length}
use Prim.Native.Nat.{◌-◌, ◌≤◌}
use mathlib.Core.Path.{◌≡◌}
use Rattle.verdict.proofs.ruling.Ruling.raise_all.Given as goal

abbrev pub invariant-loop-g : goal.invariant-loop-g
invariant-loop-g l = (l.g ≤ 128) × (length l.book ≡ length l.initial.book)
    × (l.book ≡ put l.initial.book 16
    (rows (group_bytes l.own l.later l.self.places.now l.initial.book l.contracts) l.g))

abbrev pub decreases-loop-g : goal.decreases-loop-g
decreases-loop-g l = 128 - l.g
