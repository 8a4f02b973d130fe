-- Demand 1 for `positions`: each call ends with one answer whatever it is handed, a refusal with the number that is
-- named, in the order that is named, and book and findings stay exactly as they were.
use Rattle.std.specs.Prelude.{◌≡◌, List, ℕ, length}
use Rattle.positions.specs.Books.{fresh_fault, ask_fault}
use Rattle.positions.specs.Judge.{judge_fault}
use Rattle.position_demands.specs.Calls.{Step, make_book, judge_log, ask_book, lend_findings, number_in, Lent, Given}
use Rattle.position_demands.specs.Calls.{Gives, Ran}

-- for every list of steps, on any book and findings, there is an answer
pub record Answered (w : Lent) (cs : List Step) : Type 0 where
  pub given : List Given
  pub ran : Ran w cs given

abbrev pub AlwaysAnswered : Type 0
AlwaysAnswered = (w : Lent) (cs : List Step) → Answered w cs

-- and no second one fits
abbrev pub OneAnswer : Type 0
OneAnswer = (w : Lent) (cs : List Step) (gs gs' : List Given) → Ran w cs gs → Ran w cs gs' → gs ≡ gs'

-- each call's chain of refusals, 0 for none: "Fresh: 4, 17"; "22 ..; then 17, 18, 9, 20"; "Ask: 17, 21"
unfoldable pub named_number : Lent → Step → ℕ
named_number w (make_book rulebook) = fresh_fault (length w.book) rulebook
named_number w (judge_log log) = judge_fault log w.book (length w.out)
named_number w (ask_book group kind family) = ask_fault w.book group kind family
named_number w (lend_findings out) = 0

abbrev pub NumberNamed : Type 0
NumberNamed = (w : Lent) (c : Step) (g : Given) → Gives w c g → number_in g.reply ≡ named_number w c

abbrev pub RefusalKeeps : Type 0
RefusalKeeps = (w : Lent) (c : Step) (g : Given) → Gives w c g → (number_in g.reply ≡ 0 → ⊥) → g.after ≡ w
