-- 01, "Ladders": totals over days. "Totals start at zero in each calendar year"; nothing is carried from step to step.
-- For a book of any shape.
use Rattle.std.specs.Prelude.{ℕ, ◌+◌, Bool, ◌&&◌, List, [], ◌∷◌, eqb, ltb}
use Rattle.wire.specs.Choice.{pick}
use Rattle.wire.specs.Buffers.{rows}
use Rattle.calendar.specs.Dates.{year}
use Rattle.places.specs.Places.{ladders}
use Rattle.book.specs.declared.shape.Shape.{Shape}
use Rattle.book.specs.Shape.{rulebook_of}
use Rattle.book.specs.Layout.{book_as, last_date, total_at}
use Rattle.verdict.specs.Verdict.{Verdict, offends, found_at}

-- how many of a list pass the test
unfoldable pub how_many : {A : Type 0} → (A → Bool) → List A → ℕ
how_many test [] = 0
how_many test (x ∷ xs) = pick (test x) 1 0 + how_many test xs

-- a day that was written to a book: its date, and what its end went by
pub record WrittenDay : Type 0 where
  pub date : ℕ
  pub verdict : Verdict

-- the day was an offence on a ladder
unfoldable pub offence_on : ℕ → WrittenDay → Bool
offence_on ladder d = offends d.verdict ladder

-- how many days of a year were one
unfoldable pub offence_days : ℕ → ℕ → List WrittenDay → ℕ
offence_days y ladder days = how_many (λ d. eqb (year d.date) y && offence_on ladder d) days

-- ---- days on a book: `from` is the book as it was before them; the latest day stands first
-- the date of the last day, or the book's where there was none
unfoldable pub last_on : List ℕ → List WrittenDay → ℕ
last_on from [] = last_date from
last_on from (d ∷ days) = d.date

-- what the book brings into a year: its total, and nothing into a later year than its own
unfoldable pub carried : List ℕ → (y ladder : ℕ) → ℕ
carried from y ladder = pick (ltb (year (last_date from)) y) 0 (total_at from ladder)

-- a ladder's total in a year: what was carried into it, and the year's offence days
unfoldable pub total_over : List ℕ → (y ladder : ℕ) → List WrittenDay → ℕ
total_over from y ladder days = carried from y ladder + offence_days y ladder days

-- the book as bytes: as it was where no day was written, and else each total is that of the last day's year
unfoldable pub book_over : Shape → List ℕ → List WrittenDay → List ℕ
book_over shape from [] = from
book_over shape from (d ∷ days) =
    book_as shape (rulebook_of from) d.date (λ ladder. total_over from (year d.date) ladder (d ∷ days))

-- what a day adds to its findings for a ladder, as bytes, on the book of the days before it
abbrev pub found_on : Shape → List ℕ → WrittenDay → List WrittenDay → ℕ → List ℕ
found_on shape from d before ladder = found_at d.verdict d.date (book_over shape from before) ladder

-- its findings, over all ladders of the shape
abbrev pub found_over : Shape → List ℕ → WrittenDay → List WrittenDay → List ℕ
found_over shape from d before = rows (found_on shape from d before) (ladders shape.kinds)

-- a fresh book: no last date, and every total 0
unfoldable pub blank_as : Shape → (rulebook : ℕ) → List ℕ
blank_as shape rulebook = book_as shape rulebook 0 (λ ladder. 0)
