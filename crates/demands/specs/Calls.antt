-- Any list of calls as customers make them: "each call is handed the state, tables, counts and book as the call before
-- left them". What a call gives is what its contract promises, and nothing else is known of it.
use Rattle.std.specs.Prelude.{ℕ, ◌*◌, List, [], ◌∷◌, map, ⊤, Result, Ok, Err}
use Rattle.wire.specs.Outcomes.{number_in as number_of}
use Rattle.wire.specs.declared.refusal.Refusal.{Refusal}
use Rattle.counts.specs.declared.weigh.Reasons.{Reasons}
use Rattle.book.specs.declared.ask.Asked.{Asked}
use Rattle.rules.specs.Kinds.{most_kinds}
use Rattle.desk.specs.declared.state.State.{State}
use Rattle.desk.specs.Books.{FreshGives, AskGives}
use Rattle.desk.specs.Take.{TakeGives}
use Rattle.desk.specs.Open.{OpenGives}
use Rattle.desk.specs.Abandon.{AbandonGives}
use Rattle.desk.specs.End.{EndGives}

-- ---- what a customer does
-- the six calls, with what a caller makes up; header with tables, record and end record are bytes
pub data Step : Type 0 where
  make_book : (rulebook : ℕ) → Step
  open_day : (log : List ℕ) → Step
  take_record : (row : List ℕ) → Step
  end_day : (row : List ℕ) → Step
  abandon_day : Step
  ask_book : (group kind family : ℕ) → Step
  -- and, between calls, another findings buffer of any length and bytes: it is not asked that the findings stay
  lend_findings : (out : List ℕ) → Step

-- an answer, of each call's kind
pub data Reply : Type 0 where
  made : Result ⊤ Refusal → Reply
  moved : Result State Refusal → Reply
  took : Result (State × Reasons) Refusal → Reply
  ended : Result (State × ℕ) Refusal → Reply
  told : Result Asked Refusal → Reply
  lent : Reply

-- the paper's number: the refusal's, or 0 for none
abbrev pub number_in : Reply → ℕ
number_in (made a) = number_of a
number_in (moved a) = number_of a
number_in (took a) = number_of a
number_in (ended a) = number_of a
number_in (told a) = number_of a
number_in lent = 0

-- what goes from call to call: the state, the tables lent at the last opening that was accepted, and the buffers
pub record Desk : Type 0 where
  pub state : State
  pub log : List ℕ
  pub counts : List ℕ
  pub book : List ℕ
  pub out : List ℕ

abbrev pub desk_of : State → (log counts book out : List ℕ) → Desk
desk_of state log counts book out = record { state = state; log = log; counts = counts; book = book; out = out }

-- the answer of a call, and what it leaves
pub record Given : Type 0 where
  pub reply : Reply
  pub after : Desk

-- the numbers of a list of answers
abbrev pub numbers : List Given → List ℕ
numbers gs = map (λ g. number_in g.reply) gs

-- a refusal leaves the state, and the tables of the day that is open
abbrev pub state_after : State → Result State Refusal → State
state_after old (Ok new) = new
state_after old (Err why) = old

abbrev pub log_after : List ℕ → List ℕ → Result State Refusal → List ℕ
log_after old log (Ok new) = log
log_after old log (Err why) = old

abbrev pub take_state : State → Result (State × Reasons) Refusal → State
take_state old (Ok taken) = taken.0
take_state old (Err why) = old

abbrev pub end_state : State → Result (State × ℕ) Refusal → State
end_state old (Ok closed) = closed.0
end_state old (Err why) = old

-- ---- what each may give, by its contract; a buffer that is not lent to it to write is as it was
pub data Gives (w : Desk) : Step → Given → Type 0 where
  fresh_gives : {rulebook : ℕ} {a : Result ⊤ Refusal} {book : List ℕ}
      → FreshGives w.book rulebook a book
      → Gives w (make_book rulebook)
      (record { reply = made a; after = desk_of w.state w.log w.counts book w.out })
  open_gives : {log : List ℕ} {a : Result State Refusal} {counts : List ℕ}
      → OpenGives w.state log w.book w.counts a counts
      → Gives w (open_day log)
      (record {
        reply = moved a;
        after = desk_of (state_after w.state a) (log_after w.log log a) counts w.book w.out;
      })
  take_gives : {row : List ℕ} {a : Result (State × Reasons) Refusal} {counts : List ℕ}
      → TakeGives w.state w.log row w.counts a counts
      → Gives w (take_record row)
      (record { reply = took a; after = desk_of (take_state w.state a) w.log counts w.book w.out })
  end_gives : {row : List ℕ} {a : Result (State × ℕ) Refusal} {book out : List ℕ}
      → EndGives w.state w.log row w.book w.counts w.out a book out
      → Gives w (end_day row)
      (record { reply = ended a; after = desk_of (end_state w.state a) w.log w.counts book out })
  abandon_gives : {a : Result State Refusal}
      → AbandonGives w.state a
      → Gives w abandon_day
      (record { reply = moved a; after = desk_of (state_after w.state a) w.log w.counts w.book w.out })
  ask_gives : {group kind family : ℕ} {a : Result Asked Refusal}
      → AskGives w.book group kind family a
      → Gives w (ask_book group kind family) (record { reply = told a; after = w })
  lend_gives : {out : List ℕ}
      → Gives w (lend_findings out)
      (record { reply = lent; after = desk_of w.state w.log w.counts w.book out })

-- a list of steps, one after the other, each on what the one before left
pub data Ran : Desk → List Step → List Given → Type 0 where
  none : {w : Desk} → Ran w [] []
  next : {w : Desk} {c : Step} {cs : List Step} {g : Given} {gs : List Given} → Gives w c g → Ran g.after cs gs
      → Ran w (c ∷ cs) (g ∷ gs)

-- what they leave
unfoldable pub left : Desk → List Given → Desk
left w [] = w
left w (g ∷ gs) = left g.after gs

-- room for all findings of a day: "At most 6,144, which is 49,152 bytes"
abbrev pub full_room : ℕ
full_room = 8 * (2048 * most_kinds)
