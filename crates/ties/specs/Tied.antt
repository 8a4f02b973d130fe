-- What ties a run to the code: each of the six calls, as a function that customers link, gives what `Gives` says of
-- it, whatever stands in the parts of the desk that are not lent to it. The functions are in src/lib.rt.
use Rattle.std.specs.Prelude.{List, ℕ, ⊤, Result}
use Rattle.wire.specs.declared.refusal.Refusal.{Refusal}
use Rattle.book.specs.declared.ask.Asked.{Asked}
use Rattle.desk.specs.declared.state.State.{State}
use Rattle.counts.specs.declared.weigh.Reasons.{Reasons}
use Rattle.demands.specs.Calls.{make_book, open_day, take_record, end_day, abandon_day, ask_book, made, moved, took}
use Rattle.demands.specs.Calls.{ended}
use Rattle.demands.specs.Calls.{told, desk_of, state_after, log_after, take_state, end_state, Gives}

-- a fresh book: the answer, and the book
abbrev pub FreshTied : List ℕ → ℕ → Result ⊤ Refusal → List ℕ → Type 0
FreshTied book rulebook a book' = (state : State) (log counts out : List ℕ)
    → Gives (desk_of state log counts book out) (make_book rulebook)
    (record { reply = made a; after = desk_of state log counts book' out })

-- opening: the answer, and the counts
abbrev pub OpenTied : State → (log book counts : List ℕ) → Result State Refusal → List ℕ → Type 0
OpenTied state log book counts a counts' = (held out : List ℕ)
    → Gives (desk_of state held counts book out) (open_day log)
    (record { reply = moved a; after = desk_of (state_after state a) (log_after held log a) counts' book out })

-- taking: the answer, and the counts
abbrev pub TakeTied : State → (log row counts : List ℕ) → Result (State × Reasons) Refusal → List ℕ → Type 0
TakeTied state log row counts a counts' = (book out : List ℕ)
    → Gives (desk_of state log counts book out) (take_record row)
    (record { reply = took a; after = desk_of (take_state state a) log counts' book out })

-- ending: the answer, the book and the findings
abbrev pub EndTied : State → (log row book counts out : List ℕ)
    → Result (State × ℕ) Refusal → (book' out' : List ℕ) → Type 0
EndTied state log row book counts out a book' out' =
    Gives (desk_of state log counts book out) (end_day row)
    (record { reply = ended a; after = desk_of (end_state state a) log counts book' out' })

-- abandoning, and asking: the answer
abbrev pub AbandonTied : State → Result State Refusal → Type 0
AbandonTied state a = (log counts book out : List ℕ)
    → Gives (desk_of state log counts book out) abandon_day
    (record { reply = moved a; after = desk_of (state_after state a) log counts book out })

abbrev pub AskTied : List ℕ → (group kind family : ℕ) → Result Asked Refusal → Type 0
AskTied book group kind family a = (state : State) (log counts out : List ℕ)
    → Gives (desk_of state log counts book out) (ask_book group kind family)
    (record { reply = told a; after = desk_of state log counts book out })
