-- An answer chosen by the number of a refusal, over any type of answer and of buffers. Assumes nothing.
use mathlib.Core.Path.{◌≡◌, refl, sym, ap, ◌∙◌}
use mathlib.Core.Bool.{Bool, true, false}
use Prim.Native.Nat.{ℕ}
use borrow.Author.Tests.{eqb-true, eqb-false, eq-eqb, ne_eqb}
use lib.Dec.{eqb}
use Rattle.wire.specs.Choice.{pick, or_else}
use Rattle.wire.specs.Outcomes.{answered, Outcome}
use Rattle.wire.proofs.ChoiceLaws.{pick_yes, pick_no, or_else_lem}

-- ---- the answer alone; `r` makes a refusal of a number
module _ {A : Type 0} (d : A) (r : ℕ → A) where
  pub answer_refused : (fault n : ℕ) → n ≡ fault → (n ≡ 0 → ⊥) → r n ≡ answered fault d r
  unfolding answered
  answer_refused fault n e some = pick_no _ _ _ _ (ne_eqb fault 0 (λ z. some (e ∙ z))) (ap r e)

  pub answer_done : (fault : ℕ) {a : A} → fault ≡ 0 → a ≡ d → a ≡ answered fault d r
  unfolding answered
  answer_done fault e is = pick_yes _ _ _ _ (eq-eqb fault 0 e) is

  -- the paper's number of it: 0 where it is done, and the refusal's
  pub answer_number : (number : A → ℕ) (fault : ℕ) → number d ≡ 0 → ((fault ≡ 0 → ⊥) → number (r fault) ≡ fault)
      → number (answered fault d r) ≡ fault
  unfolding answered
  answer_number number fault y n = go (eqb fault 0) refl
    where
      go : (t : Bool) → eqb fault 0 ≡ t → number (pick (eqb fault 0) d (r fault)) ≡ fault
      go true e = ap number (sym (pick_yes _ _ _ _ e refl)) ∙ y ∙ sym (eqb-true fault 0 e)
      go false e = ap number (sym (pick_no _ _ _ _ e refl)) ∙ n (eqb-false fault 0 e)

-- an answer told in other words is chosen by the same number
pub answer_map : {A B : Type 0} (f : A → B) (d : A) (r : ℕ → A) (fault : ℕ) → f (answered fault d r)
    ≡ answered fault (f d) (λ n. f (r n))
unfolding answered
answer_map f d r fault = go (eqb fault 0) refl
  where
    go : (t : Bool) → eqb fault 0 ≡ t → f (pick (eqb fault 0) d (r fault)) ≡ pick (eqb fault 0) (f d) (f (r fault))
    go true e = ap f (sym (pick_yes _ _ _ _ e refl)) ∙ pick_yes _ _ _ _ e refl
    go false e = ap f (sym (pick_no _ _ _ _ e refl)) ∙ pick_no _ _ _ _ e refl

-- ---- with the buffers
module _ {A B : Type 0} {d : A} {r : ℕ → A} {new old : B} where
  pub done : (fault : ℕ) {a : A} {b : B} → fault ≡ 0 → a ≡ d → b ≡ new → Outcome fault d r new old a b
  done fault e is after = record {
    answer = answer_done d r fault e is;
    after =
        pick_yes _ _ _ _ (eq-eqb fault 0 e) after;
  }

  pub then_by : (f g : ℕ) {a : A} {b : B} → f ≡ 0 → Outcome g d r new old a b → Outcome (or_else f g) d r new old a b
  then_by f g e o = rw (or_else_lem f g e) o

  -- no second outcome
  pub one_outcome : {fault : ℕ} {a₁ a₂ : A} {b₁ b₂ : B} → Outcome fault d r new old a₁ b₁
      → Outcome fault d r new old a₂ b₂
      → (a₁ ≡ a₂) × (b₁ ≡ b₂)
  one_outcome p q = (p.answer ∙ sym q.answer, p.after ∙ sym q.after)

  pub outcome_map : {C : Type 0} (f : A → C) {fault : ℕ} {a : A} {b : B} → Outcome fault d r new old a b
      → Outcome fault (f d) (λ n. f (r n)) new old (f a) b
  outcome_map f {fault} o = record { answer = ap f o.answer ∙ answer_map f d r fault; after = o.after }
