-- Laws of a buffer that is filled place by place: what a turn leaves, and what the whole then is. Assumes nothing.
use mathlib.Core.Path.{◌≡◌, refl, sym, ap, subst, ◌∙◌}
use mathlib.Core.Logic.{⊎_elim}
use mathlib.Core.List.{List, [], ◌∷◌}
use Prim.Native.Nat.{ℕ, ◌+◌, ◌-◌, ◌*◌, ◌/◌, ◌%◌, ◌<◌, ◌≤◌}
use native.Mathlib.Nat.{eq-or-lt_of_le}
use native.Mathlib.Omega.{arith}
use lib.ListN.{length, get_or}
use lib.Seq.{ext_get_or}
use Rattle.std.proofs.lemmas.Bool.{cases_lt}
use Rattle.wire.specs.Bytes.{le, bytes}
use Rattle.wire.specs.Buffers.{put, put_in, rows}
use Rattle.wire.proofs.ByteLaws.{bytes_length}
use Rattle.wire.proofs.BufferLaws.{put_in_lem, get_or_put_after, le_put, le_put_before, ones_at, ones_length}
use Rattle.wire.proofs.BufferLaws.{rows_length, rows_at}

-- a buffer with a known byte at each place
pub bytes_are : (f : ℕ → ℕ) (s : List ℕ) (n : ℕ) → length s ≡ n → ((k : ℕ) → k < n → get_or s k 0 ≡ f k)
    → s ≡ rows (λ k. f k ∷ []) n
bytes_are f s n l h =
    ext_get_or 0 s (rows (λ k. f k ∷ []) n) (l ∙ sym (ones_length f n))
    (λ i b. let m : i < n = omega arith in h i m ∙ sym (ones_at f n i m))

-- ---- 16 bits written at place k of them
module _ (s r : List ℕ) (k v : ℕ) (fits : 2 * k + 2 ≤ length s) (e : r ≡ put_in s (2 * k) (bytes 2 v)) where
  pub pair_kept : (j : ℕ) → j < k → le 2 r (2 * j) ≡ le 2 s (2 * j)
  pair_kept j h =
      ap (λ (x : List ℕ). le 2 x (2 * j)) (e ∙ put_in_lem s (2 * k) (bytes 2 v) room)
      ∙ le_put_before s (2 * k) (bytes 2 v) room 2 (2 * j) (omega arith)
    where
      room : 2 * k + length (bytes 2 v) ≤ length s
      room = omega (arith, bytes_length 2 v)

  pub pair_put : v < 65536 → le 2 r (2 * k) ≡ v
  pair_put small =
      ap (λ (x : List ℕ). le 2 x (2 * k)) (e ∙ put_in_lem s (2 * k) (bytes 2 v) (omega (arith, bytes_length 2 v)))
      ∙ le_put 2 s (2 * k) v fits small

  pub pair_past : (i : ℕ) → 2 * k + 2 ≤ i → get_or r i 0 ≡ get_or s i 0
  pair_past i h =
      let n : length (bytes 2 v) ≡ 2 = bytes_length 2 v in
      let room : 2 * k + length (bytes 2 v) ≤ length s = omega arith in
      let place : 2 * k + length (bytes 2 v) + (i - (2 * k + 2)) ≡ i = omega arith in
      ap (λ (x : List ℕ). get_or x i 0) (e ∙ put_in_lem s (2 * k) (bytes 2 v) room)
      ∙ subst (λ (j : ℕ). get_or (put s (2 * k) (bytes 2 v)) j 0 ≡ get_or s j 0) place
      (get_or_put_after s (2 * k) (bytes 2 v) room (i - (2 * k + 2)))

-- the bytes of a number that is read
pair_bytes : (s : List ℕ) (i v : ℕ) → get_or s i 0 < 256 → get_or s (i + 1) 0 < 256 → le 2 s i ≡ v
    → (get_or s i 0 ≡ v % 256) × (get_or s (i + 1) 0 ≡ v / 256 % 256)
unfolding le
pair_bytes s i v a b e = (omega arith, omega arith)

-- a buffer with known 16 bits at each place
pub pairs_are : (f : ℕ → ℕ) (s : List ℕ) (n : ℕ) → length s ≡ 2 * n → ((i : ℕ) → get_or s i 0 < 256)
    → ((k : ℕ) → k < n → le 2 s (2 * k) ≡ f k) → s ≡ rows (λ k. bytes 2 (f k)) n
unfolding bytes
pairs_are f s n l small h =
    ext_get_or 0 s (rows row n) (l ∙ sym (rows_length row 2 (λ k. refl) n)) at
  where
    row : ℕ → List ℕ
    row k = bytes 2 (f k)

    low : (k : ℕ) → k < n → get_or s (2 * k + 0) 0 ≡ get_or (rows row n) (2 * k + 0) 0
    low k m =
        let z : 2 * k + 0 ≡ 2 * k = omega arith in
        ap (λ (i : ℕ). get_or s i 0) z ∙ (pair_bytes s (2 * k) (f k) (small _) (small _) (h k m)).0
        ∙ sym (rows_at row 2 (λ k. refl) n k 0 m (omega arith))

    high : (k : ℕ) → k < n → get_or s (2 * k + 1) 0 ≡ get_or (rows row n) (2 * k + 1) 0
    high k m =
        (pair_bytes s (2 * k) (f k) (small _) (small _) (h k m)).1
        ∙ sym (rows_at row 2 (λ k. refl) n k 1 m (omega arith))

    at : (i : ℕ) → i < length s → get_or s i 0 ≡ get_or (rows row n) i 0
    at i b =
        ⊎_elim
        (λ (q : i % 2 ≡ 1). let e : i ≡ 2 * (i / 2) + 1 = omega arith in rw e (high (i / 2) (omega arith)))
        (λ (q : i % 2 < 1). let e : i ≡ 2 * (i / 2) + 0 = omega arith in rw e (low (i / 2) (omega arith)))
        (eq-or-lt_of_le (omega arith))

-- two buffers with the same 16 bits at each of n places, and the same bytes from there on
pub pairs_same : (s t : List ℕ) (n : ℕ) → length s ≡ length t → ((i : ℕ) → get_or s i 0 < 256)
    → ((i : ℕ) → get_or t i 0 < 256) → ((k : ℕ) → k < n → le 2 s (2 * k) ≡ le 2 t (2 * k))
    → ((i : ℕ) → 2 * n ≤ i → get_or s i 0 ≡ get_or t i 0) → s ≡ t
pairs_same s t n l small small' pairs rest = ext_get_or 0 s t l (λ i b. at i)
  where
    two : (k : ℕ) → k < n
        → (get_or s (2 * k) 0 ≡ get_or t (2 * k) 0) × (get_or s (2 * k + 1) 0 ≡ get_or t (2 * k + 1) 0)
    two k m =
        let p = pair_bytes s (2 * k) (le 2 t (2 * k)) (small _) (small _) (pairs k m) in
        let q = pair_bytes t (2 * k) (le 2 t (2 * k)) (small' _) (small' _) refl in
        (p.0 ∙ sym q.0, p.1 ∙ sym q.1)

    below : (i : ℕ) → i < 2 * n → get_or s i 0 ≡ get_or t i 0
    below i m =
        ⊎_elim
        (λ (q : i % 2 ≡ 1). let e : i ≡ 2 * (i / 2) + 1 = omega arith in rw e ((two (i / 2) (omega arith)).1))
        (λ (q : i % 2 < 1). let e : i ≡ 2 * (i / 2) = omega arith in rw e ((two (i / 2) (omega arith)).0))
        (eq-or-lt_of_le (omega arith))

    at : (i : ℕ) → get_or s i 0 ≡ get_or t i 0
    at i = ⊎_elim (below i) (rest i) (cases_lt i (2 * n))
