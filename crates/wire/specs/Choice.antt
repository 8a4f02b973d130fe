-- The one choice by a test: every rule that goes by cases, and every list of refusals in order, is made of it.
use Rattle.std.specs.Prelude.{ℕ, Bool, true, false, ◌&&◌, leb, eqb}

-- a where the test holds, and else b
unfoldable pub pick {ℓ} : {A : Type ℓ} → Bool → A → A → A
pick true a b = a
pick false a b = b

-- x is from low to high, both included
abbrev pub within : ℕ → ℕ → ℕ → Bool
within low high x = leb low x && leb x high

-- the first of two numbers of refusals: the one, or where it is 0, for none, the other
unfoldable pub or_else : ℕ → ℕ → ℕ
or_else a b = pick (eqb a 0) b a
