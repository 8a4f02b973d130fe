-- Laws of a choice by a test, and the set that proves each return of a chain of early returns. Assumes nothing.
use mathlib.Core.Path.{◌≡◌, refl, sym, ap, ◌∙◌}
use mathlib.Core.Bool.{Bool, true, false, not, ◌&&◌, ◌||◌}
use Prim.Native.Nat.{ℕ, ◌≤◌, ◌<◌}
use native.Mathlib.Omega.{arith}
use lib.Dec.{leb, eqb}
use borrow.Author.Tests.{eqb-true, eqb-false, leb-true, lt-ltb, le-ltb, le-leb, lt-leb, eq-eqb, ne_eqb, not-true}
use borrow.Author.Tests.{not-false}
use mir.Val.{bool_byte as from_bool}
use Rattle.wire.specs.Choice.{pick, within, or_else}
use Rattle.std.proofs.lemmas.Bool.{and_parts, or_parts}
-- the library's laws of two tests and of a test turned round, under the names that proofs here go by
pub use Rattle.std.proofs.lemmas.Bool.{and_from as and_yes, and_left as and_no, and_right as and_no_right}
pub use Rattle.std.proofs.lemmas.Bool.{not_from_false as flip_yes, not_from_true as flip_no}

module _ {A : Type 0} where
  pub pick_yes : (t : Bool) (x a b : A) → t ≡ true → x ≡ a → x ≡ pick t a b
  unfolding pick
  pick_yes t x a b e h = rw e h

  pub pick_no : (t : Bool) (x a b : A) → t ≡ false → x ≡ b → x ≡ pick t a b
  unfolding pick
  pick_no t x a b e h = rw e h

  -- a choice between two that are equal is either
  pub pick_same : (t : Bool) (a : A) → pick t a a ≡ a
  unfolding pick
  pick_same true a = refl
  pick_same false a = refl

-- a test as a number
pub bit_of : (t : Bool) → from_bool t ≡ pick t 1 0
unfolding pick
bit_of true = refl
bit_of false = refl

-- a chain of refusals that gave 0: this one did not hold, and the rest gave 0
pub pick_zero : (t : Bool) (n r : ℕ) → 0 < n → pick t n r ≡ 0 → (t ≡ false) × (r ≡ 0)
unfolding pick
pick_zero true n r l e = absurd (omega arith)
pick_zero false n r l e = (refl, e)

pub pick_le : (t : Bool) (a b m : ℕ) → a ≤ m → b ≤ m → pick t a b ≤ m
unfolding pick
pick_le true a b m p q = p
pick_le false a b m p q = q

pub pick_least : (t : Bool) (m a b : ℕ) → m ≤ a → m ≤ b → m ≤ pick t a b
unfolding pick
pick_least true m a b p q = p
pick_least false m a b p q = q

-- two tests at once: their parts, and what the parts say of them
pub and_left : (a b : Bool) → a && b ≡ true → a ≡ true
and_left a b e = (and_parts a b e).0

pub and_right : (a b : Bool) → a && b ≡ true → b ≡ true
and_right a b e = (and_parts a b e).1

pub or_left : (a b : Bool) → a || b ≡ false → a ≡ false
or_left a b e = (or_parts a b e).0

pub or_right : (a b : Bool) → a || b ≡ false → b ≡ false
or_right a b e = (or_parts a b e).1

pub bounds : (low high x : ℕ) → within low high x ≡ true → (low ≤ x) × (x ≤ high)
bounds low high x e =
    (leb-true low x (and_left (leb low x) (leb x high) e), leb-true x high (and_right (leb low x) (leb x high) e))

-- two tests that follow from each other are one
pub same_test : (a b : Bool) → (a ≡ true → b ≡ true) → (b ≡ true → a ≡ true) → a ≡ b
same_test true b f g = sym (f refl)
same_test false true f g = g refl
same_test false false f g = refl

-- two lists of refusals, one after the other
pub or_else_lem : (a b : ℕ) → a ≡ 0 → or_else a b ≡ b
unfolding or_else
or_else_lem a b e = sym (pick_yes _ _ _ _ (eq-eqb a 0 e) refl)

pub or_first : (a b : ℕ) → (a ≡ 0 → ⊥) → or_else a b ≡ a
unfolding or_else
or_first a b n = sym (pick_no _ _ _ _ (ne_eqb a 0 n) refl)

pub or_else_by : (a b n : ℕ) → a ≡ 0 → n ≡ b → n ≡ or_else a b
or_else_by a b n z e = e ∙ sym (or_else_lem a b z)

pub or_none : (a b : ℕ) → or_else a b ≡ 0 → (a ≡ 0) × (b ≡ 0)
or_none a b e = go (eqb a 0) refl
  where
    go : (t : Bool) → eqb a 0 ≡ t → (a ≡ 0) × (b ≡ 0)
    go true q = let z : a ≡ 0 = eqb-true a 0 q in (z, sym (or_else_lem a b z) ∙ e)
    go false q = let n : a ≡ 0 → ⊥ = eqb-false a 0 q in absurd (n (sym (or_first a b n) ∙ e))

pub or_pick : (t : Bool) (n r : ℕ) → (n ≡ 0 → ⊥) → or_else (pick t n 0) r ≡ pick t n r
unfolding pick
or_pick true n r h = or_first n r h
or_pick false n r h = or_else_lem 0 r refl

pub or_assoc : (a b c : ℕ) → or_else (or_else a b) c ≡ or_else a (or_else b c)
or_assoc a b c = go (eqb a 0) refl
  where
    go : (t : Bool) → eqb a 0 ≡ t → or_else (or_else a b) c ≡ or_else a (or_else b c)
    go true e = let z = eqb-true a 0 e in ap (λ (n : ℕ). or_else n c) (or_else_lem a b z)
        ∙ sym (or_else_lem a (or_else b c) z)
    go false e =
        let n = eqb-false a 0 e in
        ap (λ (m : ℕ). or_else m c) (or_first a b n) ∙ or_first a c n ∙ sym (or_first a (or_else b c) n)

-- what comes after matters only where nothing came before
pub or_after : (a b c : ℕ) → (a ≡ 0 → b ≡ c) → or_else a b ≡ or_else a c
or_after a b c h = go (eqb a 0) refl
  where
    go : (t : Bool) → eqb a 0 ≡ t → or_else a b ≡ or_else a c
    go true e = ap (or_else a) (h (eqb-true a 0 e))
    go false e = let n = eqb-false a 0 e in or_first a b n ∙ sym (or_first a c n)

-- a bound of both lists of refusals bounds the two together
pub or_most : (a b m : ℕ) → a ≤ m → b ≤ m → or_else a b ≤ m
unfolding or_else
or_most a b m p q = pick_le (eqb a 0) b a m q p

-- a number that no link of a chain has
pub pick_not : (t : Bool) (n r m : ℕ) → (n ≡ m → ⊥) → (r ≡ m → ⊥) → pick t n r ≡ m → ⊥
unfolding pick
pick_not true n r m a b e = a e
pick_not false n r m a b e = b e

pub or_not : (a b m : ℕ) → (a ≡ m → ⊥) → (b ≡ m → ⊥) → or_else a b ≡ m → ⊥
unfolding or_else
or_not a b m x y e = pick_not (eqb a 0) b a m y x e

-- what a call answered, r for the test t, and how its answer was asked for
pub told : (t r v : Bool) → r ≡ t → r ≡ v → t ≡ v
told t r v p q = sym p ∙ q

pub told_yes : (t r : Bool) → r ≡ t → not r ≡ false → t ≡ true
told_yes t r e n = sym e ∙ not-false r n

pub told_no : (t r : Bool) → r ≡ t → not r ≡ true → t ≡ false
told_no t r e n = sym e ∙ not-true r n

-- what proves each return of a chain of early returns: `search chain`
pub ruleset chain =
    (pick_yes, pick_no, told, told_yes, told_no, flip_yes, flip_no, lt-ltb, le-ltb, le-leb, lt-leb, eq-eqb, ne_eqb)
