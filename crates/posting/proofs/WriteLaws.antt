-- What the writes of a head and of a group's part leave in the buffer. Assumes nothing.
use mathlib.Core.Path.{◌≡◌, refl, sym, ap, ap₂, ◌∙◌}
use mathlib.Core.Bool.{Bool}
use mathlib.Core.List.{List, [], ◌∷◌, ◌++◌}
use Prim.Native.Nat.{ℕ, zero, suc, ◌+◌, ◌-◌, ◌*◌, ◌<◌, ◌≤◌, zero-le}
use native.Mathlib.Omega.{arith}
use lib.Dec.{ltb}
use borrow.Rule.Slice.PartMut.{put_mid}
use lib.ListN.{length, set, take, drop, replicate, length-replicate}
use lib.ListN.{length-take, length-drop}
use lib.Seq.{drop-drop}
use Rattle.std.proofs.lemmas.List.{replicate-append-replicate}
use Rattle.wire.specs.Bytes.{le, bytes}
use Rattle.wire.specs.Buffers.{put, put_in, rows}
use Rattle.wire.proofs.ByteLaws.{bytes_length}
use Rattle.wire.proofs.BufferLaws.{put_in_lem, put_sets, then, length_put, past_end, le_put_after, rows_length}
use Rattle.wire.proofs.TurnLaws.{then_in, pair_turn}
use Rattle.book.specs.Layout.{head_of}
use Rattle.posting.specs.Raise.{next_total, place_in, hit_at}
use Rattle.book.proofs.BookLaws.{head_length}

-- a part that comes back is put where it was lent from
pub mid_put : (s p : List ℕ) (a k : ℕ) → length p ≡ k → put_mid a k s p ≡ put s a p
unfolding put
mid_put s p a k e = ap (λ (l : List ℕ). take a s ++ (p ++ l)) (drop-drop k a s ∙ ap (λ (n : ℕ). drop (a + n) s)
    (sym e))

-- ---- the head
-- the mark, and two bytes behind it
marked : (s p : List ℕ) (letter rulebook : ℕ) → 4 ≤ length s → p ≡ 0x41 ∷ 0x58 ∷ []
    → set (set (put_mid 0 2 s p) 2 letter) 3 rulebook ≡ put s 0 (0x41 ∷ 0x58 ∷ letter ∷ rulebook ∷ [])
marked s p letter rulebook h e =
    let m = put s 0 p in
    let n : length p ≡ 2 = ap length e in
    let long : length m ≡ length s = length_put s 0 p (omega arith) in
    ap (λ (l : List ℕ). set (set l 2 letter) 3 rulebook) (mid_put s p 0 2 n)
    ∙ put_sets m 2 (letter ∷ rulebook ∷ []) (omega arith)
    ∙ then s m (put m 2 (letter ∷ rulebook ∷ [])) p (letter ∷ rulebook ∷ []) 0 2 zero-le refl (omega arith) refl
    ∙ ap (λ (l : List ℕ). put s 0 (l ++ (letter ∷ rulebook ∷ []))) e

module _ (s : List ℕ) (letter rulebook date : ℕ) where
  pub head_written : (p r₁ r₂ r₃ r₄ : List ℕ) → 16 ≤ length s → p ≡ 0x41 ∷ 0x58 ∷ []
      → r₁ ≡ put_in (set (set (put_mid 0 2 s p) 2 letter) 3 rulebook) 4 (bytes 2 1)
      → r₂ ≡ put_in r₁ 6 (bytes 4 date) → r₃ ≡ put_in r₂ 10 (bytes 2 0) → r₄ ≡ put_in r₃ 12 (bytes 4 0)
      → r₄ ≡ put s 0 (head_of letter rulebook date)
  unfolding head_of bytes
  head_written p r₁ r₂ r₃ r₄ h m e₁ e₂ e₃ e₄ =
      then_in s r₃ r₄ _ _ 0 12
      (then_in s r₂ r₃ _ _ 0 10
      (then_in s r₁ r₂ _ _ 0 6
      (then_in s _ r₁ _ _ 0 4 (marked s p letter rulebook (omega arith) m) refl e₁ (omega arith))
      refl e₂ (omega arith))
      refl e₃ (omega arith))
      refl e₄ h

  -- one that fits, and one that does not
  pub head_fitting : (r : List ℕ) → 16 ≤ length s → r ≡ put s 0 (head_of letter rulebook date)
      → r ≡ put_in s 0 (head_of letter rulebook date)
  head_fitting r h e = e ∙ sym (put_in_lem s 0 (head_of letter rulebook date) (rw head_length h))

  pub head_too_long : length s < 16 → s ≡ put_in s 0 (head_of letter rulebook date)
  head_too_long h = past_end s 0 (head_of letter rulebook date) (rw head_length h)

-- ---- the totals of a fresh book
zero_rows : (n : ℕ) → rows (λ _. bytes 2 0) n ≡ replicate (2 * n) 0
unfolding rows bytes
zero_rows zero = refl
zero_rows (suc n) =
    let twice : 2 * n + 2 ≡ 2 * suc n = omega arith in
    ap (λ (l : List ℕ). l ++ (0 ∷ 0 ∷ [])) (zero_rows n) ∙ replicate-append-replicate (2 * n) 2 0
    ∙ ap (λ (k : ℕ). replicate k 0) twice

pub totals_zeroed : (s p : List ℕ) (n : ℕ) → length s ≡ 16 + 2 * n
    → p ≡ replicate (length (take (length s - 16) (drop 16 s))) 0
    → put_mid 16 (length s - 16) s p ≡ put s 16 (rows (λ _. bytes 2 0) n)
totals_zeroed s p n long e =
    mid_put s p 16 (length s - 16) (ap length zeros ∙ length-replicate (2 * n) 0 ∙ omega arith)
    ∙ ap (put s 16) (zeros ∙ sym (zero_rows n))
  where
    rest : length (take (length s - 16) (drop 16 s)) ≡ 2 * n
    rest = omega (arith, length-take (length s - 16) (drop 16 s), length-drop 16 s)

    zeros : p ≡ replicate (2 * n) 0
    zeros = e ∙ ap (λ (m : ℕ). replicate m 0) rest

-- ---- a group's part
module _ (part : List ℕ) (later : Bool) (places : List ℕ) (from contracts : ℕ) where
  -- the total at place k of a group after the day
  abbrev pub total_after : ℕ → ℕ
  total_after k = next_total later (hit_at places contracts (from + k)) (le 2 part (2 * k))

  -- a turn of `raise_group`: place, old and new are what its calls gave
  pub raise_turn : (r r' : List ℕ) (j place old new : ℕ) → r ≡ put part 0 (rows (λ k. bytes 2 (total_after k)) j)
      → place ≡ place_in places (from + j) → old ≡ le 2 r (2 * j) → new ≡ next_total later (ltb place contracts) old
      → r' ≡ put_in r (2 * j) (bytes 2 new) → 2 * j + 2 ≤ length part
      → r' ≡ put part 0 (rows (λ k. bytes 2 (total_after k)) (j + 1))
  raise_turn r r' j place old new e p o n e' h =
      let long : length (rows (λ k. bytes 2 (total_after k)) j) ≡ 2 * j =
      rows_length (λ k. bytes 2 (total_after k)) 2 (λ k. bytes_length 2 (total_after k)) j in
      let same : old ≡ le 2 part (2 * j) =
      o ∙ ap (λ (s : List ℕ). le 2 s (2 * j)) e ∙ le_put_after part 0 _ (omega arith) 2 (2 * j) (omega arith) in
      let is : new ≡ total_after j = n ∙ ap₂ (λ (x y : ℕ). next_total later (ltb x contracts) y) p same in
      pair_turn total_after part r r' 0 (2 * j) j e (omega arith) (e' ∙ ap (λ (v : ℕ). put_in r (2 * j) (bytes 2 v)) is)
      h
