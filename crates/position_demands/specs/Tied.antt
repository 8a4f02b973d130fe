-- What ties a run to the code: each of the three calls, as a function that customers link, gives what `Gives` says of
-- it, whatever stands in the buffer that is not lent to it. The functions are in src/lib.rt.
use Rattle.std.specs.Prelude.{List, ℕ, ⊤, Result}
use Rattle.wire.specs.declared.refusal.Refusal.{Refusal}
use Rattle.book.specs.declared.ask.Asked.{Asked}
use Rattle.position_demands.specs.Calls.{make_book, judge_log, ask_book, made, judged, told, lent_of, given, Gives}

abbrev pub FreshTied : List ℕ → ℕ → Result ⊤ Refusal → List ℕ → Type 0
FreshTied book rulebook a book' = (out : List ℕ)
    → Gives (lent_of book out) (make_book rulebook) (given (made a) (lent_of book' out))

abbrev pub JudgeTied : (log book out : List ℕ) → Result ℕ Refusal → (book' out' : List ℕ) → Type 0
JudgeTied log book out a book' out' = Gives (lent_of book out) (judge_log log) (given (judged a) (lent_of book' out'))

abbrev pub AskTied : List ℕ → (group kind family : ℕ) → Result Asked Refusal → Type 0
AskTied book group kind family a = (out : List ℕ)
    → Gives (lent_of book out) (ask_book group kind family) (given (told a) (lent_of book out))
