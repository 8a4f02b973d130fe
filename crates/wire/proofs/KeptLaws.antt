-- Laws of rows that are kept where a test holds, all of one length: how long they are, and where each stands. Assumes
-- nothing.
use mathlib.Core.Path.{◌≡◌, refl, sym, ap, ap₂, ◌∙◌}
use mathlib.Core.Logic.{⊎_elim}
use mathlib.Core.Bool.{Bool, true, false}
use mathlib.Core.List.{List, [], ◌++◌}
use Prim.Native.Nat.{ℕ, zero, suc, ◌+◌, ◌*◌, ◌<◌, ◌≤◌}
use native.Mathlib.Nat.{not-suc-le-zero, le_of_suc-le-suc, eq-or-lt_of_le, mul-add, mul-one, mul-zero, mul-suc}
use native.Mathlib.Nat.{mul-le-mul_left}
use native.Mathlib.Omega.{arith}
use lib.ListN.{length, get_or, take, drop, length-append, length-drop}
use lib.Seq.{get_or-take, get_or-drop, take_all, take-append-le, drop-append-le, drop_at}
use Rattle.wire.specs.Choice.{pick}
use Rattle.wire.specs.Below.{count}
use Rattle.wire.specs.Buffers.{rows}
use Rattle.wire.proofs.ChoiceLaws.{pick_yes}
use Rattle.wire.proofs.BelowLaws.{count_below}

-- m elements that end before the second of two lists
take_front : (m i : ℕ) (xs ys : List ℕ) → i + m ≤ length xs → take m (drop i (xs ++ ys)) ≡ take m (drop i xs)
take_front m i xs ys h =
    ap (take m) (drop-append-le i xs ys (omega arith)) ∙ take-append-le m (drop i xs) ys
    (omega (arith, length-drop i xs))

-- what stands at a place in a part that is known
pub part_at : (m i at k : ℕ) (bs part : List ℕ) → take m (drop i bs) ≡ part → at ≡ i + k → k < m → get_or bs at 0
    ≡ get_or part k 0
part_at m i at k bs part e w h =
    ap (λ (n : ℕ). get_or bs n 0) w ∙ sym (get_or-drop i bs k 0) ∙ sym (get_or-take m (drop i bs) k 0 h)
    ∙ ap (λ (l : List ℕ). get_or l k 0) e

kept_one : (t : Bool) (m : ℕ) (row : List ℕ) → length row ≡ m → length (pick t row []) ≡ m * pick t 1 0
unfolding pick
kept_one true m row e = e ∙ sym (mul-one m)
kept_one false m row e = sym (mul-zero m)

module _ (p : ℕ → Bool) (f : ℕ → List ℕ) (m : ℕ) (len : (k : ℕ) → length (f k) ≡ m) where
  abbrev kept : ℕ → List ℕ
  kept k = pick (p k) (f k) []

  -- m elements for each place that passes
  pub kept_length : (n : ℕ) → length (rows kept n) ≡ m * count p n
  unfolding rows count
  kept_length zero = sym (mul-zero m)
  kept_length (suc n) =
      length-append (rows kept n) (kept n) ∙ ap₂ (λ (x y : ℕ). x + y) (kept_length n) (kept_one (p n) m (f n) (len n))
      ∙ sym (mul-add m (count p n) (pick (p n) 1 0))

  kept_last : (n : ℕ) → p n ≡ true → take m (drop (m * count p n) (rows kept n ++ kept n)) ≡ f n
  kept_last n e =
      ap (take m) (drop_at (rows kept n) (kept n) (m * count p n) (kept_length n)
      ∙ sym (pick_yes (p n) (f n) (f n) [] e refl))
      ∙ take_all m (f n) (omega (arith, len n))

  -- where a row that is kept stands
  pub kept_at : (n k : ℕ) → k < n → p k ≡ true → take m (drop (m * count p k) (rows kept n)) ≡ f k
  unfolding rows
  kept_at zero k h e = absurd (not-suc-le-zero h)
  kept_at (suc n) k h e =
      ⊎_elim (λ (q : k ≡ n). rw q (kept_last n (ap p (sym q) ∙ e)))
      (λ (l : k < n).
      let up : m * suc (count p k) ≤ m * count p n = mul-le-mul_left m (count_below p k n l e) in
      take_front m (m * count p k) (rows kept n) (kept n) (omega (arith, up, mul-suc m (count p k), kept_length n))
      ∙ kept_at n k l e)
      (eq-or-lt_of_le (le_of_suc-le-suc h))
