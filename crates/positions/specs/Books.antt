-- 02, K4: "It has a book of its own, mark "AXQ", with one kind and 4,112 bytes, cleared, made fresh and asked (kind 5
-- only) like the other".
use Rattle.std.specs.Prelude.{◌≡◌, ℕ, List, ⊤, Result}
use Rattle.wire.specs.declared.refusal.Refusal.{Refusal}
use Rattle.rules.specs.declared.kinds.Kinds.TheVariants.{One}
use Rattle.book.specs.declared.shape.Shape.{Shape}
use Rattle.book.specs.declared.ask.Asked.{Asked}
use Rattle.book.specs.Ask.{ask_fault_as, ask_answer_as}
use Rattle.posting.specs.Fresh.{fresh_fault_as, FreshGivesAs}

-- "AXQ", with one kind, in both rulebooks
unfoldable pub position_shape : Shape
position_shape = record { letter = 0x51; kinds = One }

-- "Fresh: 4, 17"
abbrev pub fresh_fault : (len rulebook : ℕ) → ℕ
fresh_fault = fresh_fault_as position_shape

abbrev pub FreshGives : List ℕ → (rulebook : ℕ) → Result ⊤ Refusal → List ℕ → Type 0
FreshGives = FreshGivesAs position_shape

-- "Ask: 17, 21", and 21 is for every kind but 5
abbrev pub ask_fault : List ℕ → (group kind family : ℕ) → ℕ
ask_fault = ask_fault_as position_shape

abbrev pub ask_answer : List ℕ → (group kind family : ℕ) → Result Asked Refusal
ask_answer = ask_answer_as position_shape

abbrev pub AskGives : List ℕ → (group kind family : ℕ) → Result Asked Refusal → Type 0
AskGives b group kind family a = a ≡ ask_answer b group kind family
