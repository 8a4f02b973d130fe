-- A refusal has its number, and a number from 1 to 22 its refusal; and answers that are a `Result` with a refusal.
-- Assumes nothing.
use mathlib.Core.Path.{◌≡◌, refl, sym, ap, ◌∙◌}
use mathlib.Core.Bool.{Bool, true, false, not}
use Prim.Native.Nat.{ℕ, zero, suc, ◌≤◌, ◌<◌}
use native.Mathlib.Omega.{arith}
use lib.Dec.{eqb}
use borrow.Author.Tests.{eqb-true, ne_eqb}
use Rattle.std.specs.Prelude.{Ok, Err, is_err}
use Rattle.wire.specs.declared.refusal.Refusal.{Refusal}
use Rattle.wire.specs.declared.refusal.Refusal.TheVariants.{Length, Mark, Version, Rulebook, Date, Sizes, ContractEntry}
use Rattle.wire.specs.declared.refusal.Refusal.TheVariants.{AccountEntry, NotLater, WrongState, Fields, NoContract}
use Rattle.wire.specs.declared.refusal.Refusal.TheVariants.{NoAccount, Full, OtherNumber, CountsShort, NotSound}
use Rattle.wire.specs.declared.refusal.Refusal.TheVariants.{OtherRulebook, Changed, FindingsShort, OutOfRange}
use Rattle.wire.specs.declared.refusal.Refusal.TheVariants.{PositionLog}
use Rattle.wire.specs.Choice.{or_else}
use Rattle.wire.specs.Below.{every}
use Rattle.wire.specs.Refusals.{number, numbered}
use Rattle.wire.specs.Outcomes.{answered, refused, number_in, checked, Outcome}
use Rattle.wire.proofs.BelowLaws.{every_at}
use Rattle.wire.proofs.ChoiceLaws.{pick_yes, pick_no, or_first}
use Rattle.wire.proofs.AnswerLaws.{answer_refused, answer_done, answer_number}

pub numbered_number : (r : Refusal) → numbered (number r) ≡ r
numbered_number Length = refl
numbered_number Mark = refl
numbered_number Version = refl
numbered_number Rulebook = refl
numbered_number Date = refl
numbered_number Sizes = refl
numbered_number ContractEntry = refl
numbered_number AccountEntry = refl
numbered_number NotLater = refl
numbered_number WrongState = refl
numbered_number Fields = refl
numbered_number NoContract = refl
numbered_number NoAccount = refl
numbered_number Full = refl
numbered_number OtherNumber = refl
numbered_number CountsShort = refl
numbered_number NotSound = refl
numbered_number OtherRulebook = refl
numbered_number Changed = refl
numbered_number FindingsShort = refl
numbered_number OutOfRange = refl
numbered_number PositionLog = refl

some_number : (r : Refusal) → number r ≡ 0 → ⊥
some_number Length e = omega arith
some_number Mark e = omega arith
some_number Version e = omega arith
some_number Rulebook e = omega arith
some_number Date e = omega arith
some_number Sizes e = omega arith
some_number ContractEntry e = omega arith
some_number AccountEntry e = omega arith
some_number NotLater e = omega arith
some_number WrongState e = omega arith
some_number Fields e = omega arith
some_number NoContract e = omega arith
some_number NoAccount e = omega arith
some_number Full e = omega arith
some_number OtherNumber e = omega arith
some_number CountsShort e = omega arith
some_number NotSound e = omega arith
some_number OtherRulebook e = omega arith
some_number Changed e = omega arith
some_number FindingsShort e = omega arith
some_number OutOfRange e = omega arith
some_number PositionLog e = omega arith

pub number_numbered : (n : ℕ) → 0 < n → n ≤ 22 → number (numbered n) ≡ n
unfolding every
number_numbered zero l h = absurd (omega arith)
number_numbered (suc n) l h =
    eqb-true _ _ (every_at (λ k. eqb (number (numbered (suc k))) (suc k)) 22 n refl (omega arith))

positive : {n : ℕ} → (n ≡ 0 → ⊥) → 0 < n
positive {n = zero} some = absurd (some refl)
positive {n = suc n} some = omega arith

module _ {A : Type 0} where
  -- a refusal that has the number, and an answer where the number is 0
  pub refuse : (r : Refusal) {fault : ℕ} (done : A) → number r ≡ fault → Err r ≡ answered fault (Ok done) refused
  refuse r {fault} done e =
      ap Err (sym (numbered_number r)) ∙ answer_refused (Ok done) refused fault (number r) e (some_number r)

  pub accept : {fault : ℕ} (done : A) → fault ≡ 0 → Ok done ≡ answered fault (Ok done) refused
  accept done e = answer_done (Ok done) refused _ e refl

  -- what an answer says of the number
  pub accepted : (fault : ℕ) (done : A) {a : A} → Ok a ≡ answered fault (Ok done) refused → (fault ≡ 0) × (a ≡ done)
  unfolding answered
  accepted fault done {a} e = go (eqb fault 0) refl
    where
      go : (t : Bool) → eqb fault 0 ≡ t → (fault ≡ 0) × (a ≡ done)
      go true q = (eqb-true fault 0 q, let w = e ∙ sym (pick_yes _ _ _ _ q refl) in cc)
      go false q = absurd (let w = e ∙ sym (pick_no _ _ _ _ q refl) in cc)

  pub refused_some : (f : ℕ) (a : A) {r : Refusal} → Err r ≡ answered f (Ok a) refused → f ≡ 0 → ⊥
  refused_some f a {r} e z = let w = e ∙ sym (answer_done (Ok a) refused f z refl) in cc

  refused_then : (f g : ℕ) (a : A) {r : Refusal} → (f ≡ 0 → ⊥) → Err r ≡ answered f (Ok a) refused
      → Err r ≡ answered (or_else f g) (Ok a) refused
  refused_then f g a n e = rw (or_first f g n) e

  -- the paper's number of an answer
  pub number_answered : (fault : ℕ) (done : A) → fault ≤ 22 → number_in (answered fault (Ok done) refused) ≡ fault
  number_answered fault done h =
      answer_number (Ok done) refused number_in fault refl (λ some. number_numbered fault (positive some) h)

-- a refusal is passed on whatever the answers are, and that of the first of two lists of refusals is that of both
module _ {A B : Type 0} (a : A) (b : B) where
  pub pass : (f : ℕ) {r : Refusal} → Err r ≡ answered f (Ok a) refused → Err r ≡ answered f (Ok b) refused
  unfolding answered
  pass f {r} e = go (eqb f 0) refl
    where
      go : (t : Bool) → eqb f 0 ≡ t → Err r ≡ answered f (Ok b) refused
      go true q = absurd (let w = e ∙ sym (pick_yes _ _ _ _ q refl) in cc)
      go false q =
          let w = e ∙ sym (pick_no _ _ _ _ q refl) in
          let r_is : r ≡ numbered f = cc in
          ap Err r_is ∙ pick_no _ _ _ _ q refl

  pub pass_on : (f g : ℕ) {r : Refusal} → Err r ≡ answered f (Ok a) refused
      → Err r ≡ answered (or_else f g) (Ok b) refused
  pass_on f g e = refused_then f g b (refused_some f a e) (pass f e)

-- a call that refuses leaves what it may write: by itself, and where it passes a refusal on
module _ {B C : Type 0} {b : B} {new old : C} where
  pub refuse_all : (r : Refusal) {fault : ℕ} → number r ≡ fault → Outcome fault (Ok b) refused new old (Err r) old
  refuse_all r {fault} e = record {
    answer = refuse r b e;
    after = pick_no _ _ _ _ (ne_eqb fault 0 (λ z. some_number r (e ∙ z))) refl;
  }

module _ {A B C : Type 0} (a : A) (b : B) {new old : C} where
  pub keep : (f : ℕ) {r : Refusal} → Err r ≡ answered f (Ok a) refused → Outcome f (Ok b) refused new old (Err r) old
  keep f e = record {
    answer = pass a b f e;
    after = pick_no _ _ _ _ (ne_eqb f 0 (refused_some f a e)) refl;
  }

  pub keep_on : (f g : ℕ) {r : Refusal} → Err r ≡ answered f (Ok a) refused
      → Outcome (or_else f g) (Ok b) refused new old (Err r) old
  keep_on f g e = rw (or_first f g (refused_some f a e)) (keep f e)

-- a check that refuses has a number
pub check_fails : (fault : ℕ) → is_err (checked fault) ≡ not (eqb fault 0)
unfolding answered
check_fails fault = go (eqb fault 0) refl
  where
    go : (t : Bool) → eqb fault 0 ≡ t → is_err (checked fault) ≡ not (eqb fault 0)
    go true e = ap is_err (sym (pick_yes _ _ _ _ e refl)) ∙ sym (ap not e)
    go false e = ap is_err (sym (pick_no _ _ _ _ e refl)) ∙ sym (ap not e)
