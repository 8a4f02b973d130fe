-- Demand 1: the theorems to specs/Demand1. Assumes nothing.
use mathlib.Core.Path.{◌≡◌, refl, sym, ap, ap₂, ◌∙◌, subst}
use mathlib.Core.Bool.{Bool, true, false}
use mathlib.Core.List.{List, [], ◌∷◌}
use borrow.Author.Tests.{ne_eqb}
use lib.ListN.{length}
use lib.Dec.{eqb}
use Rattle.posting.proofs.FreshLaws.{fresh_most}
use Rattle.wire.specs.Choice.{pick}
use Rattle.wire.specs.Outcomes.{answered, number_in as number_of}
use Rattle.wire.proofs.ChoiceLaws.{pick_no}
use Rattle.wire.proofs.AnswerLaws.{answer_done, one_outcome}
use Rattle.wire.proofs.RefusalLaws.{number_answered}
use Rattle.book.specs.Ask.{ask_answer_as, asked_total, asked_rung}
use Rattle.desk.specs.Abandon.{abandon_answer}
use Rattle.desk.specs.End.{end_found}
use Rattle.demands.specs.Calls.{Step, Desk, Given, Gives, fresh_gives, open_gives, take_gives, end_gives}
use Rattle.demands.specs.Calls.{abandon_gives, ask_gives, lend_gives, Ran, none, next}
use Rattle.demands.specs.Demand1.{AlwaysAnswered, OneAnswer, named_number, NumberNamed, clauses_in}
use Rattle.demands.specs.Demand1.{values_in, named_values}
use Rattle.demands.specs.Demand1.{ValuesNamed, RefusalKeeps}
use Rattle.demands.proofs.NumberLaws.{open_most, take_most, end_most, abandon_most, ask_number_lem}
use Rattle.demands.proofs.Answers.{answers}

-- ---- there is an answer, and no second one
pub always_answered : AlwaysAnswered
always_answered = answers

one_given : {w : Desk} {c : Step} {g g' : Given} → Gives w c g → Gives w c g' → g ≡ g'
one_given (fresh_gives m) (fresh_gives n) = let q = one_outcome m n in rw (q.0, q.1)
one_given (open_gives m) (open_gives n) = let q = one_outcome m n in rw (q.0, q.1)
one_given (take_gives m) (take_gives n) = let q = one_outcome m n in rw (q.0, q.1)
one_given (end_gives m) (end_gives n) =
    let q = one_outcome m n in rw (q.0, ap (λ x. x.0) q.1, ap (λ x. x.1) q.1)
one_given (abandon_gives m) (abandon_gives n) = rw (m ∙ sym n)
one_given (ask_gives m) (ask_gives n) = rw (m ∙ sym n)
one_given lend_gives lend_gives = refl

pub one_answer : OneAnswer
one_answer w [] [] [] none none = refl
one_answer w [] [] (h ∷ hs) _ s = elim s [ ]
one_answer w [] (g ∷ gs) _ r _ = elim r [ ]
one_answer w (c ∷ cs) [] _ r _ = elim r [ ]
one_answer w (c ∷ cs) (g ∷ gs) [] _ s = elim s [ ]
one_answer w (c ∷ cs) (g ∷ gs) (h ∷ hs) (next m r) (next n s) =
    let e : g ≡ h = one_given m n in
    ap₂ {C = List Given} (λ x xs. x ∷ xs) e
    (one_answer h.after cs gs hs (subst (λ (x : Given). Ran x.after cs gs) e r) s)

-- ---- its number is the one that is named
pub number_named : NumberNamed
unfolding named_number abandon_answer
number_named w c g (fresh_gives m) = ap number_of m.answer ∙ number_answered _ _ (fresh_most _ _ _)
number_named w c g (open_gives {log} m) =
    ap number_of m.answer ∙ number_answered _ _ (open_most w.state log w.book (length w.counts))
number_named w c g (take_gives {row} m) =
    ap number_of m.answer ∙ number_answered _ _ (take_most w.state w.log row w.counts)
number_named w c g (end_gives {row} m) =
    ap number_of m.answer ∙ number_answered _ _ (end_most w.state w.log row w.book w.counts (length w.out))
number_named w c g (abandon_gives e) = ap number_of e ∙ number_answered _ _ (abandon_most w.state)
number_named w c g (ask_gives {group} {kind} {family} e) = ap number_of e ∙ ask_number_lem w.book group kind family
number_named w c g lend_gives = refl

-- ---- and its values are those that are named
values : {w : Desk} {c : Step} {g : Given} → Gives w c g → named_number w c ≡ 0 → values_in g.reply ≡ named_values w c
unfolding named_number values_in named_values ask_answer_as
values (fresh_gives m) z = refl
values (open_gives m) z = refl
values (take_gives m) z = ap clauses_in (m.answer ∙ sym (answer_done _ _ _ z refl))
values (end_gives m) z = ap (λ a. end_found a ∷ []) (m.answer ∙ sym (answer_done _ _ _ z refl))
values (abandon_gives m) z = refl
values (ask_gives e) z = ap (λ a. asked_total a ∷ asked_rung a ∷ []) (e ∙ sym (answer_done _ _ _ z refl))
values lend_gives z = refl

pub values_named : ValuesNamed
values_named w c g m z = values m (sym (number_named w c g m) ∙ z)

-- ---- a refusal leaves everything as it was
-- what is chosen where the test does not hold
was : {A : Type 0} {t : Bool} {x old : A} (new : A) → t ≡ false → x ≡ pick t new old → x ≡ old
was new e q = q ∙ sym (pick_no _ _ _ _ e refl)

keeps : {w : Desk} {c : Step} {g : Given} → Gives w c g → eqb (named_number w c) 0 ≡ false → g.after ≡ w
unfolding named_number abandon_answer answered
keeps (fresh_gives m) e = rw (was _ e m.after)
keeps (open_gives m) e = rw (was _ e m.answer, was _ e m.after)
keeps (take_gives m) e = rw (was _ e m.answer, was _ e m.after)
keeps (end_gives m) e =
    let q = was _ e m.after in
    rw (was _ e m.answer, ap (λ x. x.0) q, ap (λ x. x.1) q)
keeps (abandon_gives m) e = rw (was _ e m)
keeps (ask_gives m) e = refl
keeps lend_gives e = let no : true ≡ false = e in cc

pub refusal_keeps : RefusalKeeps
refusal_keeps w c g m some = keeps m (ne_eqb (named_number w c) 0 (λ z. some (number_named w c g m ∙ z)))
