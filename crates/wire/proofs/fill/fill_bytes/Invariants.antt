use Rattle.std.proofs.Common.{ℕ, ◌<◌, get_or}
use Rattle.wire.proofs.fill.fill_bytes.Given as goal

abbrev pub invariant-loop-k : goal.invariant-loop-k
invariant-loop-k g l = (j : ℕ) → j < l.k → goal.F-post g l.f j (get_or l.out j 0)
