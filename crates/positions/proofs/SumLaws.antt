-- Amounts added each in its cell: what a cell then holds is the sum of those that are its own. Assumes nothing.
use mathlib.Core.Path.{◌≡◌, refl, sym, ap, ◌∙◌}
use mathlib.Core.Bool.{Bool, true, false}
use mathlib.Core.List.{List}
use Prim.Native.Nat.{ℕ, zero, suc, ◌+◌, ◌*◌, ◌≤◌, ◌<◌}
use native.Mathlib.Nat.{add-zero}
use native.Mathlib.Numerals.{add-one}
use native.Mathlib.Omega.{arith}
use borrow.Author.Tests.{eqb-true, eqb-false, ltb-true, ltb-false}
use lib.Dec.{eqb, ltb}
use lib.ListN.{length, get_or, set, replicate, length-set, length-replicate, get_or-replicate, get_or-eq_default}
use lib.Seq.{get_or-set_same, get_or-set_other}
use Rattle.wire.specs.Choice.{pick}
use Rattle.wire.specs.Below.{sum}
use Rattle.wire.proofs.ChoiceLaws.{pick_le}
use Rattle.positions.specs.Way.{added_in, summed}

pub added_length : (c : List ℕ) (i v : ℕ) → length (added_in c i v) ≡ length c
unfolding added_in
added_length c i v = length-set c i _

-- an amount more in a cell, seen at any
added_at : (c : List ℕ) (i v j : ℕ) → j < length c → get_or (added_in c i v) j 0 ≡ get_or c j 0 + pick (eqb i j) v 0
unfolding added_in
added_at c i v j h = go (eqb i j) refl
  where
    go : (t : Bool) → eqb i j ≡ t → get_or (set c i (get_or c i 0 + v)) j 0 ≡ get_or c j 0 + pick t v 0
    go true e = unfold pick in let p : i ≡ j = eqb-true i j e in rw p (get_or-set_same c j _ 0 h)
    go false e = unfold pick in get_or-set_other c i j _ 0 (λ q. eqb-false i j e (sym q)) ∙ sym (add-zero _)

module _ (size : ℕ) (cell amount : ℕ → ℕ) where
  pub summed_none : summed size cell amount 0 ≡ replicate size 0
  unfolding summed
  summed_none = refl

  pub summed_more : (n : ℕ)
      → added_in (summed size cell amount n) (cell n) (amount n) ≡ summed size cell amount (n + 1)
  unfolding summed
  summed_more n = rw add-one

  pub summed_length : (n : ℕ) → length (summed size cell amount n) ≡ size
  unfolding summed
  summed_length zero = length-replicate {A = ℕ} size 0
  summed_length (suc n) = added_length _ (cell n) (amount n) ∙ summed_length n

  pub summed_at : (n i : ℕ) → i < size
      → get_or (summed size cell amount n) i 0 ≡ sum (λ k. pick (eqb (cell k) i) (amount k) 0) n
  unfolding summed sum
  summed_at zero i h = get_or-replicate size i 0 0 h
  summed_at (suc n) i h =
      added_at (summed size cell amount n) (cell n) (amount n) i (omega (arith, summed_length n))
      ∙ ap (λ (x : ℕ). x + pick (eqb (cell n) i) (amount n) 0) (summed_at n i h)

  sum_most : ((k : ℕ) → amount k ≤ 4294967295) → (i n : ℕ)
      → sum (λ k. pick (eqb (cell k) i) (amount k) 0) n ≤ 4294967295 * n
  unfolding sum
  sum_most few i zero = omega arith
  sum_most few i (suc n) =
      omega (arith, sum_most few i n, pick_le (eqb (cell n) i) (amount n) 0 4294967295 (few n) (omega arith))

  -- amounts of 32 bits do not come to 64 bits
  pub summed_most : ((k : ℕ) → amount k ≤ 4294967295) → (n i : ℕ)
      → get_or (summed size cell amount n) i 0 ≤ 4294967295 * n
  summed_most few n i = go (ltb i size) refl
    where
      go : (t : Bool) → ltb i size ≡ t → get_or (summed size cell amount n) i 0 ≤ 4294967295 * n
      go true e = omega (arith, summed_at n i (ltb-true i size e), sum_most few i n)
      go false e =
          let past : length (summed size cell amount n) ≤ i = omega (arith, summed_length n, ltb-false i size e) in
          omega (arith, get_or-eq_default (summed size cell amount n) 0 past)
