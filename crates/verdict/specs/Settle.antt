-- 01, "The calls and their refusals": the refusals of what a day is written to, and what is then written.
use Rattle.std.specs.Prelude.{ℕ, ◌*◌, not, List, ltb, eqb, length, Result, Ok}
use Rattle.wire.specs.Choice.{pick}
use Rattle.wire.specs.Outcomes.{refused, Outcome}
use Rattle.wire.specs.declared.refusal.Refusal.{Refusal}
use Rattle.wire.specs.Buffers.{put}
use Rattle.places.specs.Places.{book_size}
use Rattle.verdict.specs.Verdict.{Verdict, found_count, findings, book_after}

-- "20: findings buffer under 8 bytes a finding"
unfoldable pub short_fault : Verdict → (room : ℕ) → ℕ
short_fault v room = pick (ltb room (8 * found_count v)) 20 0

-- 17 for a book that has not its shape's length, then 20
unfoldable pub settle_fault : Verdict → (book out : List ℕ) → ℕ
settle_fault v book out =
    pick (not (eqb (length book) (book_size v.shape.kinds))) 17
    (short_fault v (length out))

-- the book after the day, and the findings from the buffer's start: "Bytes past them stay"
abbrev pub written : Verdict → (date : ℕ) → (book out : List ℕ) → List ℕ × List ℕ
written v date book out = (book_after v date book, put out 0 (findings v date book))

-- what `settle` gives: the number of findings, or the refusal; the book and the findings
abbrev pub SettleGives :
    Verdict → (date : ℕ) → (book out : List ℕ) → Result ℕ Refusal → (book' out' : List ℕ) → Type 0
SettleGives v date book out a book' out' =
    Outcome (settle_fault v book out) (Ok (found_count v)) refused
    (written v date book out) (book, out) a (book', out')
