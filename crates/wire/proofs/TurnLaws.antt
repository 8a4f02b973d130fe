-- Laws of loops that write piece after piece, 16 bits a turn among them. Assumes nothing.
use mathlib.Core.Path.{◌≡◌, ap, ◌∙◌}
use mathlib.Core.List.{List, ◌++◌}
use Prim.Native.Nat.{ℕ, ◌+◌, ◌*◌, ◌≤◌}
use native.Mathlib.Omega.{arith}
use lib.ListN.{length}
use Rattle.wire.specs.Bytes.{bytes}
use Rattle.wire.specs.Buffers.{put, put_in, rows}
use Rattle.wire.proofs.ByteLaws.{bytes_length}
use Rattle.wire.proofs.BufferLaws.{put_in_lem, length_put, then, then_row, rows_length}

-- the next piece, where it fits
pub then_in : (s r r' p q : List ℕ) (at k : ℕ) → r ≡ put s at p → k ≡ at + length p → r' ≡ put_in r k q
    → k + length q ≤ length s
    → r' ≡ put s at (p ++ q)
then_in s r r' p q at k e w e' h =
    let n : length r ≡ length s = ap length e ∙ length_put s at p (omega arith) in
    then s r r' p q at k (omega arith) e w (e' ∙ put_in_lem r k q (omega arith))

-- one more row of the same length, where it fits
pub row_turn : (f : ℕ → List ℕ) (w : ℕ) → ((j : ℕ) → length (f j) ≡ w) → (s r r' : List ℕ) (at k l : ℕ)
    → r ≡ put s at (rows f l) → k ≡ at + w * l → r' ≡ put_in r k (f l) → k + w ≤ length s
    → r' ≡ put s at (rows f (l + 1))
row_turn f w each s r r' at k l e is e' h =
    let long : length (rows f l) ≡ w * l = rows_length f w each l in
    let n : length r ≡ length s = ap length e ∙ length_put s at (rows f l) (omega arith) in
    then_row f w each s r r' at k l (omega arith) is e (e' ∙ put_in_lem r k (f l) (omega (arith, each l)))

-- 16 bits a turn
pub pair_turn : (f : ℕ → ℕ) (s r r' : List ℕ) (at k l : ℕ) → r ≡ put s at (rows (λ j. bytes 2 (f j)) l)
    → k ≡ at + 2 * l
    → r' ≡ put_in r k (bytes 2 (f l)) → k + 2 ≤ length s → r' ≡ put s at (rows (λ j. bytes 2 (f j)) (l + 1))
pair_turn f = row_turn (λ j. bytes 2 (f j)) 2 (λ j. bytes_length 2 (f j))
