-- 01, "The calls and their refusals": "Make a fresh book"; "Fresh: 4, 17".
use Rattle.std.specs.Prelude.{ℕ, not, List, eqb, length, ⊤, Result, Ok}
use Rattle.wire.specs.Choice.{pick}
use Rattle.wire.specs.Outcomes.{refused, Outcome}
use Rattle.rules.specs.Codes.{is_rulebook}
use Rattle.book.specs.declared.shape.Shape.{Shape}
use Rattle.wire.specs.declared.refusal.Refusal.{Refusal}
use Rattle.places.specs.Places.{book_size}
use Rattle.book.specs.Layout.{book_as}

-- "4: rulebook number"; "17: for a fresh one, length not 12,304"
unfoldable pub fresh_fault_as : Shape → (len rulebook : ℕ) → ℕ
fresh_fault_as shape len rulebook =
    pick (not (is_rulebook rulebook)) 4
    (pick (not (eqb len (book_size shape.kinds))) 17
    0)

-- no last date, and every total 0; a refusal leaves the buffer
abbrev pub FreshGivesAs : Shape → List ℕ → (rulebook : ℕ) → Result ⊤ Refusal → List ℕ → Type 0
FreshGivesAs shape b rulebook a b' =
    Outcome (fresh_fault_as shape (length b) rulebook) (Ok tt) refused (book_as shape rulebook 0 (λ l. 0)) b a b'
