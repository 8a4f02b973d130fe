use mathlib.Core.Path.{◌≡◌}
use mathlib.Core.Bool.{false}
use Prim.Native.Nat.{ℕ, ◌<◌}
use Rattle.desk.proofs.LowestLaws.{tested_at}
use Rattle.desk.proofs.judging.Judging.place_at.Given as goal

abbrev pub invariant-loop-c : goal.invariant-loop-c
invariant-loop-c l =
    (j : ℕ) → j < l.c → tested_at l.self.fams.now l.self.counts.now l.family l.from l.number j ≡ false
