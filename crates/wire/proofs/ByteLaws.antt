-- Laws of numbers in bytes, over the width. Assumes nothing.
use mathlib.Core.Path.{◌≡◌, refl, ap, ap₂, sym, ◌∙◌}
use mathlib.Core.List.{List, ◌∷◌}
use Prim.Native.Nat.{ℕ, zero, suc, ◌+◌, ◌*◌, ◌/◌, ◌%◌, ◌^◌, ◌≤◌, ◌<◌}
use native.Mathlib.Nat.{add-zero, suc-add, add-suc, zero-add, add_assoc, pow-succ', one-mul, mul_assoc}
use native.Mathlib.Omega.{arith}
use lib.ListN.{length, get_or, take, drop}
use lib.Seq.{get_or-drop, get_or-take}
use Rattle.wire.specs.Bytes.{le, bytes, IsRead}

-- a number of m + n bytes is one of m bytes and one of n
pub le_split : (m n : ℕ) (s : List ℕ) (i : ℕ) → le (m + n) s i ≡ le m s i + 256 ^ m * le n s (i + m)
unfolding le
le_split zero n s i = simp (zero-add, add-zero, one-mul)
le_split (suc m) n s i =
    let e : i + 1 + m ≡ i + suc m = omega (arith, add-suc i m) in
    rw (suc-add m n, le_split m n s (i + 1), e, pow-succ', mul_assoc) (omega arith)

-- two bytes, and four, written out; the places may be written in any way
pub le_two : (s : List ℕ) (i j : ℕ) → j ≡ i + 1 → le 2 s i ≡ get_or s i 0 + 256 * get_or s j 0
unfolding le
le_two s i j e = rw e (omega arith)

pub le_four : (s : List ℕ) (i j k l : ℕ) → j ≡ i + 1 → k ≡ i + 2 → l ≡ i + 3
    → le 4 s i ≡ get_or s i 0 + 256 * get_or s j 0 + 65536 * get_or s k 0 + 16777216 * get_or s l 0
le_four s i j k l ej ek el =
    omega (arith, le_split 2 2 s i, le_two s i j ej, le_two s (i + 2) l (omega arith), ap (λ (n : ℕ). get_or s n 0) ek)

-- numbers in bytes of 8 bits: 16 bits, and 32
pub pair_low : (s : List ℕ) (i : ℕ) → ((j : ℕ) → get_or s j 0 < 256) → le 2 s i < 65536
pair_low s i small = let e = le_two s i (i + 1) refl in omega (arith, small i, small (i + 1))

pub four_low : (s : List ℕ) (i : ℕ) → ((j : ℕ) → get_or s j 0 < 256) → le 4 s i < 4294967296
four_low s i small =
    let e = le_four s i (i + 1) (i + 2) (i + 3) refl refl refl in
    omega (arith, small i, small (i + 1), small (i + 2), small (i + 3))

-- two places whose bytes agree hold the same number
pub le_cong : (n : ℕ) (s t : List ℕ) (i j : ℕ) → ((k : ℕ) → k < n → get_or s (i + k) 0 ≡ get_or t (j + k) 0)
    → le n s i ≡ le n t j
unfolding le
le_cong zero s t i j h = refl
le_cong (suc n) s t i j h =
    ap₂ (λ (a b : ℕ). a + 256 * b) (simp add-zero at (h 0 (omega arith)))
    (le_cong n s t (i + 1) (j + 1) (λ k l. simp (add_assoc, one_more) (h (suc k) (omega arith))))
  where
    one_more : (k : ℕ) → 1 + k ≡ suc k
    one_more k = omega arith

-- the number in bytes that were read
pub le_read : (n : ℕ) (s : List ℕ) (i : ℕ) (bs : List ℕ) → IsRead s i n bs → le n s i ≡ le n bs 0
le_read n s i bs r = le_cong n s bs i 0 (λ k l. rw zero-add (sym (r.1 k l)))

-- a number in a part is the one in the whole
pub le_drop : (n a : ℕ) (s : List ℕ) (i : ℕ) → le n (drop a s) i ≡ le n s (a + i)
le_drop n a s i = le_cong n (drop a s) s i (a + i) (λ k l. get_or-drop a s (i + k) 0 ∙ ap (λ (j : ℕ). get_or s j 0)
    (sym (add_assoc a i k)))

pub le_take : (n e : ℕ) (s : List ℕ) (i : ℕ) → i + n ≤ e → le n (take e s) i ≡ le n s i
le_take n e s i h = le_cong n (take e s) s i i (λ k l. get_or-take e s (i + k) 0 (omega arith))

-- the bytes of a number
pub bytes_length : (n v : ℕ) → length (bytes n v) ≡ n
unfolding bytes
bytes_length zero v = refl
bytes_length (suc n) v = ap suc (bytes_length n (v / 256))

pub le_bytes : (n v : ℕ) → v < 256 ^ n → le n (bytes n v) 0 ≡ v
unfolding le bytes
le_bytes zero v h = omega arith
le_bytes (suc n) v h =
    let p : 256 ^ suc n ≡ 256 * 256 ^ n = pow-succ' 256 n in
    let q : le n (v % 256 ∷ bytes n (v / 256)) 1 ≡ le n (bytes n (v / 256)) 0 =
    sym (le_drop n 1 (v % 256 ∷ bytes n (v / 256)) 0) in
    let r : le n (bytes n (v / 256)) 0 ≡ v / 256 = le_bytes n (v / 256) (omega arith) in
    omega arith
