-- 01, "The calls and their refusals": the days that a book may have, one after the other.
use Rattle.std.specs.Prelude.{◌≡◌, true, false, ◌&&◌, List, [], ◌∷◌, ℕ, leb, eqb}
use Rattle.calendar.specs.Dates.{real_day}
use Rattle.places.specs.Places.{family_at}
use Rattle.book.specs.declared.shape.Shape.{Shape}
use Rattle.book.specs.Sound.{sound_as}
use Rattle.book.specs.Fits.{fits_fault}
use Rattle.verdict.specs.Verdict.{offends, book_after}
use Rattle.years.specs.Days.{WrittenDay}

-- a book of a shape may have the day: none of "17: book not sound", "18: book's rulebook is not the day's" and
-- "9: date not later than the book's"; the date is real; and "in rulebook 1 zero in families 2 to 15"
pub record Allowed (shape : Shape) (book : List ℕ) (d : WrittenDay) : Type 0 where
  pub shaped : d.verdict.shape ≡ shape
  pub fits : fits_fault shape d.verdict.rulebook d.date book ≡ 0
  pub real : real_day d.date ≡ true
  pub none : (ladder : ℕ) → eqb d.verdict.rulebook 1 && leb 2 (family_at ladder) ≡ true
      → offends d.verdict ladder ≡ false

-- `book` is what days, the latest first, leave of the sound book `from`, each written to what the one before left
pub data Written (shape : Shape) (from : List ℕ) : List WrittenDay → List ℕ → Type 0 where
  none : sound_as shape from ≡ true → Written shape from [] from
  more : {d : WrittenDay} {days : List WrittenDay} {book : List ℕ} → Allowed shape book d
      → Written shape from days book → Written shape from (d ∷ days) (book_after d.verdict d.date book)
