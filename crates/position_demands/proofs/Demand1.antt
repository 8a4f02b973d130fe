-- Demand 1 for `positions`: the theorems to specs/Demand1. Assumes nothing.
use mathlib.Core.Path.{◌≡◌, refl, sym, ap, ap₂, ◌∙◌, subst}
use mathlib.Core.Bool.{Bool, true, false}
use mathlib.Core.List.{List, [], ◌∷◌}
use borrow.Author.Tests.{ne_eqb}
use lib.Dec.{eqb}
use Rattle.wire.specs.Choice.{pick}
use Rattle.wire.proofs.ChoiceLaws.{pick_no}
use Rattle.wire.specs.Outcomes.{number_in}
use Rattle.wire.proofs.AnswerLaws.{one_outcome}
use Rattle.wire.proofs.RefusalLaws.{number_answered}
use Rattle.posting.proofs.FreshLaws.{fresh_most}
use Rattle.book.specs.Ask.{ask_answer_as}
use Rattle.book.proofs.AskLaws.{ask_most}
use Rattle.positions.proofs.JudgeLaws.{judge_most}
use Rattle.position_demands.specs.Calls.{Step, make_book, judge_log, ask_book, lend_findings, Lent, Given, Gives}
use Rattle.position_demands.specs.Calls.{fresh_gives, judge_gives, ask_gives, lend_gives, Ran, none, next}
use Rattle.position_demands.specs.Demand1.{AlwaysAnswered, OneAnswer, named_number, NumberNamed, RefusalKeeps}

-- ---- there is an answer, and no second one
record Reply (w : Lent) (c : Step) : Type 0 where
  given : Given
  gives : Gives w c given

reply : (w : Lent) (c : Step) → Reply w c
reply w (make_book rulebook) = record { given = _; gives = fresh_gives (record { answer = refl; after = refl }) }
reply w (judge_log log) = record { given = _; gives = judge_gives (record { answer = refl; after = refl }) }
reply w (ask_book group kind family) = record { given = _; gives = ask_gives refl }
reply w (lend_findings out) = record { given = _; gives = lend_gives }

pub always_answered : AlwaysAnswered
always_answered w [] = record { given = []; ran = none }
always_answered w (c ∷ cs) =
    let r = reply w c in
    let more = always_answered r.given.after cs in
    record { given = r.given ∷ more.given; ran = next r.gives more.ran }

one_given : {w : Lent} {c : Step} {g g' : Given} → Gives w c g → Gives w c g' → g ≡ g'
one_given (fresh_gives m) (fresh_gives n) = let q = one_outcome m n in rw (q.0, q.1)
one_given (judge_gives m) (judge_gives n) =
    let q = one_outcome m n in rw (q.0, ap (λ x. x.0) q.1, ap (λ x. x.1) q.1)
one_given (ask_gives m) (ask_gives n) = rw (m ∙ sym n)
one_given lend_gives lend_gives = refl

pub one_answer : OneAnswer
one_answer w [] [] [] none none = refl
one_answer w [] [] (h ∷ hs) _ s = elim s [ ]
one_answer w [] (g ∷ gs) _ r _ = elim r [ ]
one_answer w (c ∷ cs) [] _ r _ = elim r [ ]
one_answer w (c ∷ cs) (g ∷ gs) [] _ s = elim s [ ]
one_answer w (c ∷ cs) (g ∷ gs) (h ∷ hs) (next m r) (next n s) =
    let e : g ≡ h = one_given m n in
    ap₂ {C = List Given} (λ x xs. x ∷ xs) e
    (one_answer h.after cs gs hs (subst (λ (x : Given). Ran x.after cs gs) e r) s)

-- ---- its number is the one that is named
pub number_named : NumberNamed
unfolding named_number ask_answer_as
number_named w c g (fresh_gives m) = ap number_in m.answer ∙ number_answered _ _ (fresh_most _ _ _)
number_named w c g (judge_gives m) = ap number_in m.answer ∙ number_answered _ _ (judge_most _ _ _)
number_named w c g (ask_gives e) = ap number_in e ∙ number_answered _ _ (ask_most _ _ _ _ _)
number_named w c g lend_gives = refl

-- ---- a refusal leaves everything as it was
was : {A : Type 0} {t : Bool} {x old : A} (new : A) → t ≡ false → x ≡ pick t new old → x ≡ old
was new e q = q ∙ sym (pick_no _ _ _ _ e refl)

keeps : {w : Lent} {c : Step} {g : Given} → Gives w c g → eqb (named_number w c) 0 ≡ false → g.after ≡ w
unfolding named_number
keeps (fresh_gives m) e = rw (was _ e m.after)
keeps (judge_gives m) e = let q = was _ e m.after in rw (ap (λ x. x.0) q, ap (λ x. x.1) q)
keeps (ask_gives m) e = refl
keeps lend_gives e = let q : true ≡ false = e in cc

pub refusal_keeps : RefusalKeeps
refusal_keeps w c g m some = keeps m (ne_eqb (named_number w c) 0 (λ z. some (number_named w c g m ∙ z)))
