-- Demand 1: "Each call ends with an answer whatever it is handed. A refusal gives the number the specification names,
-- in the order it names, and book, counts and findings stay exactly as they were." The statements; proofs/Demand1 has
-- the theorems under the same names.
use Rattle.std.specs.Prelude.{◌≡◌, List, [], ◌∷◌, ℕ, length, Result, Ok, Err}
use Rattle.wire.specs.declared.refusal.Refusal.{Refusal}
use Rattle.rules.specs.Ladders.{rung}
use Rattle.daylog.specs.Header.{tables_of}
use Rattle.book.specs.Shape.{shape_of}
use Rattle.book.specs.Ask.{total_of, asked_total, asked_rung}
use Rattle.verdict.specs.Verdict.{found_count}
use Rattle.desk.specs.Books.{fresh_fault, ask_fault}
use Rattle.desk.specs.Open.{open_fault}
use Rattle.counts.specs.declared.weigh.Reasons.{Reasons}
use Rattle.counts.specs.Weigh.{reasons_in}
use Rattle.desk.specs.declared.state.State.{State}
use Rattle.desk.specs.Take.{take_fault}
use Rattle.desk.specs.End.{cell_verdict, end_fault, end_found}
use Rattle.desk.specs.Abandon.{abandon_fault}
use Rattle.demands.specs.Calls.{Step, make_book, open_day, take_record, end_day, abandon_day, ask_book, lend_findings}
use Rattle.demands.specs.Calls.{Reply, made, moved, took, ended, told, lent, number_in, Desk, Given, Gives, Ran}

-- ---- "Each call ends with an answer whatever it is handed": for every list of steps, on every desk, there is one
pub record Answered (w : Desk) (cs : List Step) : Type 0 where
  pub given : List Given
  pub ran : Ran w cs given

abbrev pub AlwaysAnswered : Type 0
AlwaysAnswered = (w : Desk) (cs : List Step) → Answered w cs

-- and no second one fits: answer, state and every buffer
abbrev pub OneAnswer : Type 0
OneAnswer = (w : Desk) (cs : List Step) (gs gs' : List Given) → Ran w cs gs → Ran w cs gs' → gs ≡ gs'

-- ---- "the number the specification names, in the order it names": each call's chain of refusals, 0 for none
unfoldable pub named_number : Desk → Step → ℕ
named_number w (make_book rulebook) = fresh_fault (length w.book) rulebook
named_number w (open_day log) = open_fault w.state log w.book (length w.counts)
named_number w (take_record row) = take_fault w.state w.log row w.counts
named_number w (end_day row) = end_fault w.state w.log row w.book w.counts (length w.out)
named_number w abandon_day = abandon_fault w.state
named_number w (ask_book group kind family) = ask_fault w.book group kind family
named_number w (lend_findings out) = 0

abbrev pub NumberNamed : Type 0
NumberNamed = (w : Desk) (c : Step) (g : Given) → Gives w c g → number_in g.reply ≡ named_number w c

-- ---- the values that an accepted call answers with: taking passes on six clauses (02, K5), ending tells how many
-- findings there are, asking a total and its rung; no other call tells a value
-- "for both orders and each kind": the first order's clause for kind 1 and the second's, then for kinds 2 and 3
abbrev pub passed_on : Reasons → List ℕ
passed_on why =
    why.first.own ∷ why.second.own ∷ why.first.frequent ∷ why.second.frequent ∷ why.first.over
    ∷ why.second.over ∷ []

-- "a refusal passes on no clause"
abbrev pub clauses_in : Result (State × Reasons) Refusal → List ℕ
clauses_in (Ok taken) = passed_on taken.1
clauses_in (Err why) = []

unfoldable pub values_in : Reply → List ℕ
values_in (made a) = []
values_in (moved a) = []
values_in (took a) = clauses_in a
values_in (ended a) = end_found a ∷ []
values_in (told a) = asked_total a ∷ asked_rung a ∷ []
values_in lent = []

unfoldable pub named_values : Desk → Step → List ℕ
named_values w (take_record row) = passed_on (reasons_in w.log row)
named_values w (end_day row) = found_count (cell_verdict (tables_of w.log) w.counts) ∷ []
named_values w (ask_book group kind family) =
    let total = total_of (shape_of w.book).kinds w.book group kind family in
    total ∷ rung total ∷ []
named_values w (make_book rulebook) = []
named_values w (open_day log) = []
named_values w abandon_day = []
named_values w (lend_findings out) = []

abbrev pub ValuesNamed : Type 0
ValuesNamed = (w : Desk) (c : Step) (g : Given) → Gives w c g → number_in g.reply ≡ 0
    → values_in g.reply ≡ named_values w c

-- ---- "and book, counts and findings stay exactly as they were"; so do the state and the tables of the open day
abbrev pub RefusalKeeps : Type 0
RefusalKeeps = (w : Desk) (c : Step) (g : Given) → Gives w c g → (number_in g.reply ≡ 0 → ⊥) → g.after ≡ w
