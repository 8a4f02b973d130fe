-- 01, "The calls and their refusals": the two calls on a book alone. "Fresh: 4, 17." "Ask: 17, 21."
use Rattle.std.specs.Prelude.{◌≡◌, ℕ, List, ⊤, Result}
use Rattle.wire.specs.declared.refusal.Refusal.{Refusal}
use Rattle.book.specs.declared.ask.Asked.{Asked}
use Rattle.book.specs.Shape.{day_shape, shape_of}
use Rattle.posting.specs.Fresh.{fresh_fault_as, FreshGivesAs}
use Rattle.book.specs.Ask.{ask_fault_as, ask_answer_as}

-- a fresh book has the shape of its rulebook's offences
abbrev pub fresh_fault : (len rulebook : ℕ) → ℕ
fresh_fault len rulebook = fresh_fault_as (day_shape rulebook) len rulebook

abbrev pub FreshGives : List ℕ → (rulebook : ℕ) → Result ⊤ Refusal → List ℕ → Type 0
FreshGives b rulebook = FreshGivesAs (day_shape rulebook) b rulebook

-- a book that is asked has the shape of the rulebook that it names
abbrev pub ask_fault : List ℕ → (group kind family : ℕ) → ℕ
ask_fault b = ask_fault_as (shape_of b) b

abbrev pub ask_answer : List ℕ → (group kind family : ℕ) → Result Asked Refusal
ask_answer b = ask_answer_as (shape_of b) b

abbrev pub AskGives : List ℕ → (group kind family : ℕ) → Result Asked Refusal → Type 0
AskGives b group kind family a = a ≡ ask_answer b group kind family
