-- Laws of written buffers: one put after another, rows, and what then stands where. Assumes nothing.
use mathlib.Core.Path.{◌≡◌, refl, sym, ap, ap₂, ◌∙◌}
use mathlib.Core.Logic.{⊎_elim}
use mathlib.Core.List.{List, [], ◌∷◌, ◌++◌, append_assoc, append-nil}
use Prim.Native.Nat.{ℕ, zero, suc, ◌+◌, ◌-◌, ◌*◌, ◌^◌, ◌<◌, ◌≤◌}
use native.Mathlib.Nat.{zero-add, le_of_suc-le-suc, not-suc-le-zero, eq-or-lt_of_le, add-zero, add-suc, mul-zero}
use native.Mathlib.Nat.{mul-suc, mul-le-mul_left}
use native.Mathlib.Numerals.{add-one}
use native.Mathlib.Omega.{arith}
use borrow.Author.Tests.{le-leb, lt-leb}
use borrow.Rule.Slice.PartMut.{put_mid}
use lib.ListN.{length, get_or, take, drop, set, length-append, length-take, length-drop, take-append-drop}
use lib.ListN.{drop_of_length-le, get_or-append}
use lib.Seq.{take_at, drop_at, drop-drop, get_or-take, get_or-drop, get_or-append-add, length-take-le, drop-length}
use lib.Seq.{sets}
use lib.Seq.{sets-eq}
use Rattle.wire.specs.Bytes.{le, bytes}
use Rattle.wire.specs.Buffers.{put, put_in, rows}
use Rattle.wire.proofs.ChoiceLaws.{pick_yes, pick_no}
use Rattle.wire.proofs.ByteLaws.{le_cong, le_bytes, bytes_length}

-- ---- put
-- stores one after the other are one put
pub put_sets : (s : List ℕ) (at : ℕ) (p : List ℕ) → at + length p ≤ length s → sets s at p ≡ put s at p
unfolding put
put_sets s at p h = sets-eq p s at h ∙ append_assoc (take at s) p (drop (at + length p) s)

pub put_in_lem : (s : List ℕ) (at : ℕ) (p : List ℕ) → at + length p ≤ length s → put_in s at p ≡ put s at p
unfolding put_in
put_in_lem s at p h = sym (pick_yes _ (put s at p) _ _ (le-leb _ _ h) refl)

-- four stores, as straight-line code leaves them
pub put_four : (s : List ℕ) (at a b c d : ℕ) → at + 4 ≤ length s
    → set (set (set (set s at a) (at + 1) b) (at + 2) c) (at + 3) d ≡ put s at (a ∷ b ∷ c ∷ d ∷ [])
put_four s at a b c d h =
    let two : at + 2 ≡ suc (suc at) = omega arith in
    let three : at + 3 ≡ suc (suc (suc at)) = omega arith in
    rw (add-one, two, three) (put_sets s at (a ∷ b ∷ c ∷ d ∷ []) h)

-- one store, and a part that is written over
pub set_put : (s : List ℕ) (at v : ℕ) → at < length s → set s at v ≡ put_in s at (v ∷ [])
set_put s at v h = put_sets s at (v ∷ []) (omega arith) ∙ sym (put_in_lem s at (v ∷ []) (omega arith))

pub part_put : (s p q : List ℕ) (at k : ℕ) → q ≡ p → k ≡ length p → at + length p ≤ length s
    → put_mid at k s q ≡ put_in s at p
unfolding put
part_put s p q at k e w h =
    ap₂ (λ (l : List ℕ) (n : ℕ). take at s ++ (l ++ drop n (drop at s))) e w
    ∙ ap (λ (l : List ℕ). take at s ++ (p ++ l)) (drop-drop (length p) at s) ∙ sym (put_in_lem s at p h)

-- what does not fit
pub past_end : (s : List ℕ) (at : ℕ) (p : List ℕ) → length s < at + length p → s ≡ put_in s at p
unfolding put_in
past_end s at p h = pick_no _ s _ _ (lt-leb (at + length p) (length s) h) refl

-- what proves a write: what it leaves where there is room, and where there is none
pub ruleset writing = (set_put, part_put, past_end)

pub put_none : (s : List ℕ) (at : ℕ) → put s at [] ≡ s
unfolding put
put_none s at = rw (add-zero, take-append-drop)

pub put_whole : (s p : List ℕ) → length p ≡ length s → put s 0 p ≡ p
unfolding put
put_whole s p e = rw (e, zero-add, drop-length, append-nil)

module _ (s : List ℕ) (at : ℕ) (p : List ℕ) (h : at + length p ≤ length s) where
  pub length_put : length (put s at p) ≡ length s
  unfolding put
  length_put = simp (length-append, length-take, length-drop) (omega arith)

  pub get_or_put_in : (k : ℕ) → k < length p → get_or (put s at p) (at + k) 0 ≡ get_or p k 0
  unfolding put
  get_or_put_in k l =
      ap (λ (n : ℕ). get_or (take at s ++ (p ++ drop (at + length p) s)) (n + k) 0)
      (sym (length-take-le at s (omega arith)))
      ∙ get_or-append-add (take at s) (p ++ drop (at + length p) s) k 0 ∙ get_or-append p
      (drop (at + length p) s) 0 k l

  pub get_or_put_before : (k : ℕ) → k < at → get_or (put s at p) k 0 ≡ get_or s k 0
  unfolding put
  get_or_put_before k l =
      get_or-append (take at s) (p ++ drop (at + length p) s) 0 k
      (omega (arith, length-take-le at s (omega arith))) ∙ get_or-take at s k 0 l

  pub get_or_put_after : (k : ℕ) → get_or (put s at p) (at + length p + k) 0 ≡ get_or s (at + length p + k) 0
  unfolding put
  get_or_put_after k =
      ap (λ (n : ℕ). get_or (take at s ++ (p ++ drop (at + length p) s)) n 0)
      (place (length-take-le at s (omega arith)))
      ∙ get_or-append-add (take at s) (p ++ drop (at + length p) s) (length p + k) 0
      ∙ get_or-append-add p (drop (at + length p) s) k 0 ∙ get_or-drop (at + length p) s k 0
    where
      place : length (take at s) ≡ at → at + length p + k ≡ length (take at s) + (length p + k)
      place e = omega arith

  -- a number that ends before the put, or begins after it, stays
  pub le_put_before : (n i : ℕ) → i + n ≤ at → le n (put s at p) i ≡ le n s i
  le_put_before n i l = le_cong n (put s at p) s i i (λ k m. get_or_put_before (i + k) (omega arith))

  pub le_put_after : (n i : ℕ) → at + length p ≤ i → le n (put s at p) i ≡ le n s i
  le_put_after n i l = le_cong n (put s at p) s i i (λ k m. past (i + k) (omega arith))
    where
      past : (j : ℕ) → at + length p ≤ j → get_or (put s at p) j 0 ≡ get_or s j 0
      past j m =
          let e : j ≡ at + length p + (j - (at + length p)) = omega arith in
          rw e (get_or_put_after (j - (at + length p)))

-- what was put is read
pub le_put : (n : ℕ) (s : List ℕ) (at v : ℕ) → at + n ≤ length s → v < 256 ^ n → le n (put s at (bytes n v)) at ≡ v
le_put n s at v h l =
    le_cong n (put s at (bytes n v)) (bytes n v) at 0
    (λ k m. rw zero-add (get_or_put_in s at (bytes n v) (omega (arith, bytes_length n v)) k
    (omega (arith, bytes_length n v))))
    ∙ le_bytes n v l

-- one put after another, where the second begins as the first ends, is one put
pub then : (s r r' p q : List ℕ) (at k : ℕ) → at ≤ length s → r ≡ put s at p → k ≡ at + length p → r' ≡ put r k q
    → r' ≡ put s at (p ++ q)
unfolding put
then s r r' p q at k h e w e' = e' ∙ ap₂ (λ (a b : List ℕ). a ++ (q ++ b)) front back ∙ regroup
  where
    head_length : length (take at s ++ p) ≡ k
    head_length = rw (length-append, length-take-le at s h) (sym w)

    r_is : r ≡ (take at s ++ p) ++ drop (at + length p) s
    r_is = e ∙ sym (append_assoc (take at s) p (drop (at + length p) s))

    front : take k r ≡ take at s ++ p
    front = ap (take k) r_is ∙ take_at (take at s ++ p) (drop (at + length p) s) k head_length

    place : length (p ++ q) ≡ length p + length q → at + length p + length q ≡ at + length (p ++ q)
    place x = omega arith

    back : drop (k + length q) r ≡ drop (at + length (p ++ q)) s
    back =
        sym (drop-drop (length q) k r) ∙ ap (drop (length q))
        (ap (drop k) r_is ∙ drop_at (take at s ++ p) (drop (at + length p) s) k head_length)
        ∙ drop-drop (length q) (at + length p) s ∙ ap (λ (n : ℕ). drop n s) (place (length-append p q))

    regroup : (take at s ++ p) ++ (q ++ drop (at + length (p ++ q)) s)
        ≡ take at s ++ ((p ++ q) ++ drop (at + length (p ++ q)) s)
    regroup = simp append_assoc

-- what is put to the end, and then what is put before it, is the whole
pub put_both : (s p q : List ℕ) (n : ℕ) → length p ≡ n → n + length q ≡ length s → put (put s n q) 0 p ≡ p ++ q
unfolding put
put_both s p q n e w =
    let z : 0 + length p ≡ n = omega arith in
    ap (λ (k : ℕ). p ++ drop k (take n s ++ (q ++ drop (n + length q) s))) z
    ∙ ap (λ (l : List ℕ). p ++ l) (drop_at (take n s) (q ++ drop (n + length q) s) n
    (length-take-le n s (omega arith)))
    ∙ ap (λ (l : List ℕ). p ++ (q ++ l)) (drop_of_length-le s {i = n + length q} (omega arith))
    ∙ ap (λ (l : List ℕ). p ++ l) (append-nil q)

-- ---- rows
module _ (f : ℕ → List ℕ) where
  pub rows_none : rows f 0 ≡ []
  unfolding rows
  rows_none = refl

  pub rows_more : (i : ℕ) → rows f (i + 1) ≡ rows f i ++ f i
  unfolding rows
  rows_more i = rw add-one

  pub rows_add : (a b : ℕ) → rows f (a + b) ≡ rows f a ++ rows (λ j. f (a + j)) b
  unfolding rows
  rows_add a zero = rw (add-zero, append-nil)
  rows_add a (suc b) = rw (add-suc, rows_add a b, append_assoc)

-- rows of rows are rows
pub rows_rows : (f : ℕ → List ℕ) (m n : ℕ) → rows (λ g. rows (λ j. f (m * g + j)) m) n ≡ rows f (m * n)
unfolding rows
rows_rows f m zero = rw mul-zero
rows_rows f m (suc n) = rw (mul-suc, rows_add f (m * n) m, rows_rows f m n)

pub rows_cong : (f g : ℕ → List ℕ) (n : ℕ) → ((k : ℕ) → k < n → f k ≡ g k) → rows f n ≡ rows g n
unfolding rows
rows_cong f g zero h = refl
rows_cong f g (suc n) h = ap₂ (λ (a b : List ℕ). a ++ b) (rows_cong f g n (λ k l. h k (omega arith)))
    (h n (omega arith))

-- rows that are all m long
module _ (f : ℕ → List ℕ) (m : ℕ) (len : (k : ℕ) → length (f k) ≡ m) where
  pub rows_length : (n : ℕ) → length (rows f n) ≡ m * n
  unfolding rows
  rows_length zero = sym (mul-zero m)
  rows_length (suc n) = rw (length-append, len n, rows_length n, mul-suc)

  -- element j of row i
  pub rows_at : (n i j : ℕ) → i < n → j < m → get_or (rows f n) (m * i + j) 0 ≡ get_or (f i) j 0
  unfolding rows
  rows_at zero i j h w = absurd (not-suc-le-zero h)
  rows_at (suc n) i j h w =
      ⊎_elim
      (λ (q : i ≡ n).
      ap (λ (k : ℕ). get_or (rows f n ++ f n) (k + j) 0) (ap (λ (k : ℕ). m * k) q ∙ sym (rows_length n))
      ∙ get_or-append-add (rows f n) (f n) j 0 ∙ ap (λ (k : ℕ). get_or (f k) j 0) (sym q))
      (λ (lt : i < n).
      let up : m * suc i ≤ m * n = mul-le-mul_left m lt in
      let me : m * suc i ≡ m * i + m = mul-suc m i in
      let ln : length (rows f n) ≡ m * n = rows_length n in
      get_or-append (rows f n) (f n) 0 (m * i + j) (omega arith) ∙ rows_at n i j lt w)
      (eq-or-lt_of_le (le_of_suc-le-suc h))

  -- a put that is the next row, after rows that are put
  pub then_row : (s r r' : List ℕ) (at k l : ℕ) → at ≤ length s → k ≡ at + m * l → r ≡ put s at (rows f l)
      → r' ≡ put r k (f l)
      → r' ≡ put s at (rows f (l + 1))
  then_row s r r' at k l h w e e' =
      then s r r' (rows f l) (f l) at k h e (w ∙ ap (λ (n : ℕ). at + n) (sym (rows_length l))) e'
      ∙ ap (put s at) (sym (rows_more f l))

pub no_rows : (s : List ℕ) (at : ℕ) (f : ℕ → List ℕ) → s ≡ put s at (rows f 0)
no_rows s at f = sym (ap (put s at) (rows_none f) ∙ put_none s at)

-- rows of one element each: the element at a place
pub ones_at : (f : ℕ → ℕ) (n i : ℕ) → i < n → get_or (rows (λ k. f k ∷ []) n) i 0 ≡ f i
ones_at f n i h =
    let e : 1 * i + 0 ≡ i = omega arith in
    ap (λ (k : ℕ). get_or (rows (λ k. f k ∷ []) n) k 0) (sym e) ∙ rows_at (λ k. f k ∷ []) 1 (λ _. refl) n i 0 h
    (omega arith)

pub ones_length : (f : ℕ → ℕ) (n : ℕ) → length (rows (λ k. f k ∷ []) n) ≡ n
ones_length f n = omega (arith, rows_length (λ k. f k ∷ []) 1 (λ _. refl) n)

-- the 16 bits at a place of a row of them
pub pair_at : (f : ℕ → ℕ) (n k : ℕ) → k < n → f k < 65536 → le 2 (rows (λ j. bytes 2 (f j)) n) (2 * k) ≡ f k
pair_at f n k h w =
    le_cong 2 (rows (λ j. bytes 2 (f j)) n) (bytes 2 (f k)) (2 * k) 0
    (λ i m. rw zero-add (rows_at (λ j. bytes 2 (f j)) 2 (λ j. bytes_length 2 (f j)) n k i h m)) ∙ le_bytes 2 (f k) w
