-- Laws of a table's entries of one size, which code goes over as chunks: the entry at a place, and what is read in it;
-- questions asked of all chunks; the bytes of a number. Assumes nothing.
use mathlib.Core.Path.{◌≡◌, refl, sym, ap, ap₂, ◌∙◌}
use mathlib.Core.Bool.{Bool, true, false, cond}
use mathlib.Core.List.{List}
use Prim.Native.Nat.{ℕ, zero, suc, ◌+◌, ◌*◌, ◌/◌, ◌%◌, ◌≤◌, ◌<◌}
use native.Mathlib.Nat.{add-zero, mul-zero, mul-suc, not-suc-le-zero, le_of_suc-le-suc}
use native.Mathlib.Omega.{arith}
use borrow.Author.Tests.{ltb-true, ltb-false}
use lib.Dec.{ltb}
use lib.ListN.{length, get_or, take, drop}
use lib.Seq.{drop-drop, get_or-take, get_or-drop}
use Rattle.std.specs.Prelude.{Some, None}
use Rattle.std.specs.Simd.{first_chunks}
use Rattle.std.specs.List.{list_any, position_or_len}
use Rattle.std.proofs.lemmas.List.Elements.{All-from_get_or}
use Rattle.std.proofs.lemmas.List.Folds.{list_any_at, list_any_none}
use Rattle.std.proofs.lemmas.List.Sums.{position_or_len_is}
use Rattle.wire.specs.Below.{some, first}
use Rattle.wire.specs.Bytes.{le}
use Rattle.wire.proofs.BelowLaws.{first_le, first_below, first_passes, first_some}
use Rattle.wire.proofs.ByteLaws.{le_four, le_take, le_drop}

-- ---- the four bytes that a number of 32 bits was read from
low : (b x : ℕ) → b < 256 → (b + 256 * x) % 256 ≡ b
low b x h = omega arith

module _ (s : List ℕ) (small : (i : ℕ) → get_or s i 0 < 256) (i w : ℕ) (is : w ≡ le 4 s i) where
  four : w ≡ get_or s i 0 + 256 * get_or s (i + 1) 0 + 65536 * get_or s (i + 2) 0 + 16777216 * get_or s (i + 3) 0
  four = is ∙ le_four s i (i + 1) (i + 2) (i + 3) refl refl refl

  pub byte_0 : w % 256 ≡ get_or s i 0
  byte_0 = omega (arith, four, small i)

  pub byte_1 : w / 256 % 256 ≡ get_or s (i + 1) 0
  byte_1 =
      let q : w / 256 ≡ get_or s (i + 1) 0 + 256 * (get_or s (i + 2) 0 + 256 * get_or s (i + 3) 0) =
      omega (arith, four, small i) in
      ap (λ (n : ℕ). n % 256) q ∙ low (get_or s (i + 1) 0) _ (small (i + 1))

  pub byte_2 : w / 65536 % 256 ≡ get_or s (i + 2) 0
  byte_2 =
      let q : w / 65536 ≡ get_or s (i + 2) 0 + 256 * get_or s (i + 3) 0 =
      omega (arith, four, small i, small (i + 1)) in
      ap (λ (n : ℕ). n % 256) q ∙ low (get_or s (i + 2) 0) _ (small (i + 2))

  pub byte_3 : w / 16777216 % 256 ≡ get_or s (i + 3) 0
  byte_3 = omega (arith, four, small i, small (i + 1), small (i + 2), small (i + 3))

-- ---- entries of a size
module _ (size : ℕ) where
  -- the entry at a place, as a part of the table
  abbrev pub entry_at : List ℕ → ℕ → List ℕ
  entry_at s k = take size (drop (size * k) s)

  chunk_at : (m k : ℕ) (s d : List ℕ) → k < m → get_or (first_chunks size m s) k d ≡ entry_at s k
  chunk_at zero k s d h = absurd (not-suc-le-zero h)
  chunk_at (suc m) zero s d h = ap (λ (n : ℕ). take size (drop n s)) (sym (mul-zero size))
  chunk_at (suc m) (suc k) s d h =
      chunk_at m k (drop size s) d (le_of_suc-le-suc h) ∙ ap (take size) (drop-drop (size * k) size s)
      ∙ ap (λ (n : ℕ). take size (drop n s)) (omega (arith, mul-suc size k))

  -- its numbers and bytes
  module _ (s : List ℕ) (k : ℕ) where
    pub number_in : (n i : ℕ) → i + n ≤ size → le n (entry_at s k) i ≡ le n s (size * k + i)
    number_in n i h = le_take n size (drop (size * k) s) i h ∙ le_drop n (size * k) s i

    pub number_first : (n : ℕ) → n ≤ size → le n (entry_at s k) 0 ≡ le n s (size * k)
    number_first n h = number_in n 0 (omega arith) ∙ ap (le n s) (add-zero (size * k))

    pub byte_in : (i : ℕ) → i < size → get_or (entry_at s k) i 0 ≡ get_or s (size * k + i) 0
    byte_in i h = get_or-take size (drop (size * k) s) i 0 h ∙ get_or-drop (size * k) s i 0

  -- the entry that a table's chunks have at a place, and what a reader finds in it
  module _ (s : List ℕ) (es : List (List ℕ)) (m k : ℕ) (d : List ℕ) (cut : es ≡ first_chunks size m s)
      (here : k < m) where
    pub chunk_here : get_or es k d ≡ entry_at s k
    chunk_here = ap (λ (l : List (List ℕ)). get_or l k d) cut ∙ chunk_at m k s d here

    pub read_here : {A : Type 0} (f : List ℕ → ℕ → A) → f (entry_at s k) 0 ≡ f s k → f (get_or es k d) 0 ≡ f s k
    read_here f at = ap (λ (e : List ℕ). f e 0) chunk_here ∙ at

-- ---- questions asked of a list, told by the places
module _ {X : Type 0} (p : X → Bool) (q : ℕ → Bool) (xs : List X) (d : X) (n : ℕ) (len : length xs ≡ n)
    (same : (k : ℕ) → k < n → p (get_or xs k d) ≡ q k) where
  first_in : position_or_len p xs ≡ first q n
  first_in =
      let most = first_le q n in
      position_or_len_is p xs (first q n) d (omega (arith, len, most))
      (λ k h. same k (omega (arith, most)) ∙ first_below q n k h)
      (λ h. let below : first q n < n = omega (arith, len) in same (first q n) below ∙ first_passes q n below)

  pub position_first : cond (ltb (position_or_len p xs) (length xs)) (Some (position_or_len p xs)) None
      ≡ cond (ltb (first q n) n) (Some (first q n)) None
  position_first = ap₂ (λ (i m : ℕ). cond (ltb i m) (Some i) None) first_in len

  pub some_in : list_any p xs ≡ some q n
  some_in = go (some q n) refl
    where
      go : (t : Bool) → some q n ≡ t → list_any p xs ≡ some q n
      go true e =
          let below : first q n < n = ltb-true _ _ (first_some q n ∙ e) in
          list_any_at p xs (first q n) d (omega (arith, len)) (same (first q n) below ∙ first_passes q n below) ∙ sym e
      go false e =
          let most : n ≤ first q n = ltb-false _ _ (first_some q n ∙ e) in
          list_any_none p xs
          (All-from_get_or (λ x. p x ≡ false) xs d
          (λ k h. same k (omega (arith, len)) ∙ first_below q n k (omega (arith, len, most))))
          ∙ sym e
