-- 01, "The calls and their refusals": "ask a book for a total and rung (rung 0 for total 0)"; "Ask: 17, 21".
use Rattle.std.specs.Prelude.{ℕ, ◌+◌, Bool, not, ◌&&◌, List, leb, ltb, Result, Ok, Err}
use Rattle.wire.specs.Choice.{pick, within}
use Rattle.wire.specs.Outcomes.{answered, refused}
use Rattle.wire.specs.declared.refusal.Refusal.{Refusal}
use Rattle.rules.specs.declared.kinds.Kinds.{Kinds}
use Rattle.rules.specs.Kinds.{kinds_in, first_kind}
use Rattle.rules.specs.Ladders.{rung}
use Rattle.book.specs.declared.shape.Shape.{Shape}
use Rattle.book.specs.declared.ask.Asked.{Asked}
use Rattle.places.specs.Places.{ladder_of}
use Rattle.book.specs.Layout.{total_at}
use Rattle.book.specs.Sound.{sound_as}

-- "21: group, kind or family asked for is out of range (1 to 128, 1 to 3, 0 to 15)"
unfoldable pub in_range : Kinds → (group kind family : ℕ) → Bool
in_range kinds group kind family =
    within 1 128 group && (leb (first_kind kinds) kind && ltb kind (first_kind kinds + kinds_in kinds)) && leb family 15

unfoldable pub ask_fault_as : Shape → List ℕ → (group kind family : ℕ) → ℕ
ask_fault_as shape b group kind family =
    pick (not (sound_as shape b)) 17
    (pick (not (in_range shape.kinds group kind family)) 21
    0)

-- the total that was asked for
abbrev pub total_of : Kinds → List ℕ → (group kind family : ℕ) → ℕ
total_of kinds b group kind family = total_at b (ladder_of kinds group kind family)

-- the total, and its rung
unfoldable pub ask_answer_as : Shape → List ℕ → (group kind family : ℕ) → Result Asked Refusal
ask_answer_as shape b group kind family =
    let asked = total_of shape.kinds b group kind family in
    let step = rung asked in
    answered (ask_fault_as shape b group kind family) (Ok (record { total = asked; rung = step })) refused

-- an answer's values, 0 of a refusal
abbrev pub asked_total : Result Asked Refusal → ℕ
asked_total (Ok a) = a.total
asked_total (Err why) = 0

abbrev pub asked_rung : Result Asked Refusal → ℕ
asked_rung (Ok a) = a.rung
asked_rung (Err why) = 0
