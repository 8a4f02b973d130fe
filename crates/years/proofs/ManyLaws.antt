-- Laws of how many of a list pass a test. Assumes nothing.
use mathlib.Core.Path.{◌≡◌, refl, ap₂}
use mathlib.Core.Bool.{Bool, false}
use mathlib.Core.List.{List, [], ◌∷◌}
use Prim.Native.Nat.{ℕ, ◌+◌, ◌≤◌, zero-le}
use native.Mathlib.Omega.{arith}
use lib.ListN.{length}
use Rattle.wire.specs.Choice.{pick}
use Rattle.wire.proofs.ChoiceLaws.{pick_no, pick_le}
use Rattle.years.specs.Days.{how_many}

pub many_le : {A : Type 0} (test : A → Bool) (xs : List A) → how_many test xs ≤ length xs
unfolding how_many
many_le test [] = zero-le
many_le test (x ∷ xs) = omega (arith, many_le test xs, pick_le (test x) 1 0 1 (omega arith) (omega arith))

module _ {A : Type 0} where
  pub many_cong : (p q : A → Bool) (xs : List A) → ((x : A) → p x ≡ q x) → how_many p xs ≡ how_many q xs
  unfolding how_many
  many_cong p q [] h = refl
  many_cong p q (x ∷ xs) h = ap₂ (λ (t : Bool) (n : ℕ). pick t 1 0 + n) (h x) (many_cong p q xs h)

  pub many_none : (p : A → Bool) (xs : List A) → ((x : A) → p x ≡ false) → how_many p xs ≡ 0
  unfolding how_many
  many_none p [] h = refl
  many_none p (x ∷ xs) h = omega (arith, pick_no {A = ℕ} (p x) 0 1 0 (h x) refl, many_none p xs h)

  -- a test that is two, or three, of which one at most holds
  pub many_two : (p q r : A → Bool) (xs : List A) → ((x : A) → pick (p x) 1 0 ≡ pick (q x) 1 0 + pick (r x) 1 0)
      → how_many p xs ≡ how_many q xs + how_many r xs
  unfolding how_many
  many_two p q r [] h = refl
  many_two p q r (x ∷ xs) h = omega (arith, h x, many_two p q r xs h)

  pub many_three : (p q r s : A → Bool) (xs : List A)
      → ((x : A) → pick (p x) 1 0 ≡ pick (q x) 1 0 + pick (r x) 1 0 + pick (s x) 1 0)
      → how_many p xs ≡ how_many q xs + how_many r xs + how_many s xs
  unfolding how_many
  many_three p q r s [] h = refl
  many_three p q r s (x ∷ xs) h = omega (arith, h x, many_three p q r s xs h)
