use Rattle.std.proofs.Common.{◌≡◌, ℕ, ◌*◌, ◌/◌, ◌<◌, ◌≤◌, length, get_or}
use Rattle.wire.specs.Bytes.{le}
use Rattle.wire.proofs.fill.fill_pairs.Given as goal

abbrev pub invariant-loop-k : goal.invariant-loop-k
invariant-loop-k g l = record {
  pairs : (j : ℕ) → j < l.k → goal.F-post g l.f j (le 2 l.out (2 * j));
  rest : (i : ℕ) → 2 * (length l.out / 2) ≤ i → get_or l.out i 0 ≡ get_or l.initial.out i 0;
}
