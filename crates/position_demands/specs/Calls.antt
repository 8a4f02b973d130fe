-- Any list of calls of `positions` as customers make them, each handed book and findings as the call before left them.
-- What a call gives is what its contract promises, and nothing else is known of it.
use Rattle.std.specs.Prelude.{ℕ, List, [], ◌∷◌, map, ⊤, Result}
use Rattle.wire.specs.declared.refusal.Refusal.{Refusal}
use Rattle.wire.specs.Outcomes.{number_in as number_of}
use Rattle.book.specs.declared.ask.Asked.{Asked}
use Rattle.positions.specs.Books.{FreshGives, AskGives}
use Rattle.positions.specs.Judge.{JudgeGives}

-- ---- what a customer does
-- the three calls, with what a caller makes up; a position log is bytes
pub data Step : Type 0 where
  make_book : (rulebook : ℕ) → Step
  judge_log : (log : List ℕ) → Step
  ask_book : (group kind family : ℕ) → Step
  -- and, between calls, another findings buffer of any length and bytes
  lend_findings : (out : List ℕ) → Step

-- an answer, of each call's kind
pub data Reply : Type 0 where
  made : Result ⊤ Refusal → Reply
  judged : Result ℕ Refusal → Reply
  told : Result Asked Refusal → Reply
  lent : Reply

-- the paper's number: the refusal's, or 0 for none
abbrev pub number_in : Reply → ℕ
number_in (made a) = number_of a
number_in (judged a) = number_of a
number_in (told a) = number_of a
number_in lent = 0

-- what goes from call to call: there is no state
pub record Lent : Type 0 where
  pub book : List ℕ
  pub out : List ℕ

abbrev pub lent_of : (book out : List ℕ) → Lent
lent_of book out = record { book = book; out = out }

-- the answer of a call, and what it leaves
pub record Given : Type 0 where
  pub reply : Reply
  pub after : Lent

abbrev pub given : Reply → Lent → Given
given reply after = record { reply = reply; after = after }

-- the numbers of a list of answers
abbrev pub numbers : List Given → List ℕ
numbers gs = map (λ g. number_in g.reply) gs

-- ---- what each may give, by its contract; a buffer that is not lent to it to write is as it was
pub data Gives (w : Lent) : Step → Given → Type 0 where
  fresh_gives : {rulebook : ℕ} {a : Result ⊤ Refusal} {book : List ℕ} → FreshGives w.book rulebook a book
      → Gives w (make_book rulebook) (given (made a) (lent_of book w.out))
  judge_gives : {log : List ℕ} {a : Result ℕ Refusal} {book out : List ℕ}
      → JudgeGives log w.book w.out a book out → Gives w (judge_log log) (given (judged a) (lent_of book out))
  ask_gives : {group kind family : ℕ} {a : Result Asked Refusal} → AskGives w.book group kind family a
      → Gives w (ask_book group kind family) (given (told a) w)
  lend_gives : {out : List ℕ} → Gives w (lend_findings out) (given lent (lent_of w.book out))

-- a list of steps, one after the other, each on what the one before left
pub data Ran : Lent → List Step → List Given → Type 0 where
  none : {w : Lent} → Ran w [] []
  next : {w : Lent} {c : Step} {cs : List Step} {g : Given} {gs : List Given} → Gives w c g → Ran g.after cs gs
      → Ran w (c ∷ cs) (g ∷ gs)

-- what they leave
unfoldable pub left : Lent → List Given → Lent
left w [] = w
left w (g ∷ gs) = left g.after gs
