-- What is chosen by a refusal's number, as equations: by them the check finds by itself what a chain of refusals
-- gives. Assumes nothing.
use mathlib.Core.Path.{◌≡◌, refl}
use mathlib.Core.Bool.{Bool, true, false}
use mathlib.Core.Logic.{◌⊎◌, inl, inr}
use Prim.Native.Nat.{ℕ}
use lib.Dec.{eqb}
use Rattle.wire.specs.Choice.{pick, or_else}
use Rattle.wire.specs.Outcomes.{answered}

pub answered_is : {A : Type 0} (f : ℕ) (d : A) (r : ℕ → A) → answered f d r ≡ pick (eqb f 0) d (r f)
unfolding answered
answered_is f d r = refl

pub or_else_is : (f g : ℕ) → or_else f g ≡ pick (eqb f 0) g f
unfolding or_else
or_else_is f g = refl

pub pick_is : {A : Type 0} (t : Bool) (a b : A) → ((t ≡ true) × (pick t a b ≡ a)) ⊎ ((t ≡ false) × (pick t a b ≡ b))
unfolding pick
pick_is true a b = inl (refl, refl)
pick_is false a b = inr (refl, refl)

pub ruleset chosen = (answered_is, or_else_is, pick_is)
