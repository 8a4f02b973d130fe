-- 01, "The calls and their refusals": "A refusal carries its number and changes nothing".
use Rattle.std.specs.Prelude.{◌≡◌, ℕ, eqb, ⊤, Result, Ok, Err}
use Rattle.wire.specs.Choice.{pick}
use Rattle.wire.specs.declared.refusal.Refusal.{Refusal}
use Rattle.wire.specs.Refusals.{number, numbered}

-- the answer of a call whose refusal has this number, 0 for none
unfoldable pub answered : {A : Type 0} → (fault : ℕ) → (done : A) → (refused : ℕ → A) → A
answered fault done refused = pick (eqb fault 0) done (refused fault)

-- a refusal by its number
abbrev pub refused : {A : Type 0} → ℕ → Result A Refusal
refused fault = Err (numbered fault)

-- the paper's number of an answer: the refusal's, or 0 for none
abbrev pub number_in : {A : Type 0} → Result A Refusal → ℕ
number_in (Ok done) = 0
number_in (Err why) = number why

-- what a check gives whose refusal has this number, 0 for none
abbrev pub checked : ℕ → Result ⊤ Refusal
checked fault = answered fault (Ok tt) refused

-- what a call gives, by the number of its refusal: its answer, and what it leaves of what it may write. The buffers
-- are one list, or several together; where the call refuses, they are as they were
pub record Outcome {A B : Type 0} (fault : ℕ) (done : A) (refused : ℕ → A) (new old : B) (a : A) (b : B) : Type 0 where
  pub answer : a ≡ answered fault done refused
  pub after : b ≡ pick (eqb fault 0) new old
