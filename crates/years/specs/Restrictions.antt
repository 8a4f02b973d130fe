-- 01, "Ladders": sanctions over days, and the opening restrictions among them: "3 (no opening, at least one month)"
-- and "5 (no opening, at least three months)"; 02, K4: 7 and 8.
use Rattle.std.specs.Prelude.{◌≡◌, ℕ, ◌+◌, ◌≤◌, ◌<◌, Bool, ◌&&◌, List, [], ◌∷◌, eqb, get_or}
use Rattle.wire.specs.Choice.{pick}
use Rattle.calendar.specs.Dates.{year}
use Rattle.rules.specs.Ladders.{rung, sanction, no_opening}
use Rattle.rules.specs.Kinds.{kinds_in, first_kind}
use Rattle.places.specs.Places.{ladders, group_at, kind_at}
use Rattle.book.specs.declared.shape.Shape.{Shape}
use Rattle.years.specs.Days.{WrittenDay, offence_on, total_over, found_on}

-- ---- days on a book, the latest first
-- the sanction of a day's finding on a ladder, after the days before it; 0 where there is none
unfoldable pub sanction_on : List ℕ → ℕ → WrittenDay → List WrittenDay → ℕ
sanction_on from ladder d before =
    let total = total_over from (year d.date) ladder (d ∷ before) in
    let kinds = d.verdict.shape.kinds in
    pick (offence_on ladder d)
    (sanction d.verdict.rulebook (kind_at kinds ladder) (rung total) (d.verdict.member (group_at kinds ladder))) 0

-- how many of a year's findings on a ladder had a sanction that a test picks out
unfoldable pub sanctions : (ℕ → Bool) → List ℕ → (y ladder : ℕ) → List WrittenDay → ℕ
sanctions test from y ladder [] = 0
sanctions test from y ladder (d ∷ before) =
    pick (eqb (year d.date) y && test (sanction_on from ladder d before)) 1 0 + sanctions test from y ladder before

-- "its number of opening restrictions (findings with sanction 3 or 5)" in a year; K4's are 7 and 8
abbrev pub restrictions : List ℕ → (y ladder : ℕ) → List WrittenDay → ℕ
restrictions = sanctions no_opening

-- a finding is an opening restriction or not by its kind and its rung alone, with a member in the group or without
abbrev pub ByRung : Shape → (rulebook : ℕ) → (hard : (kind rung' : ℕ) → Bool) → Type 0
ByRung shape rulebook hard = (kind rung' : ℕ) (member : Bool) → first_kind shape.kinds ≤ kind
    → kind < first_kind shape.kinds + kinds_in shape.kinds
    → no_opening (sanction rulebook kind rung' member) ≡ hard kind rung'

-- the sanctions of days on a book of a shape are those in their findings: byte 3 of each
pub data Sanctioned (shape : Shape) (from : List ℕ) : List WrittenDay → Type 0 where
  none : Sanctioned shape from []
  more : {d : WrittenDay} {days : List WrittenDay}
      → ((l : ℕ) → l < ladders shape.kinds → get_or (found_on shape from d days l) 3 0 ≡ sanction_on from l d days)
      → Sanctioned shape from days → Sanctioned shape from (d ∷ days)
