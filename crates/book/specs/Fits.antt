-- 01, "The calls and their refusals": whether a book fits a day.
use Rattle.std.specs.Prelude.{ℕ, not, List, leb, eqb}
use Rattle.wire.specs.Choice.{pick}
use Rattle.book.specs.declared.shape.Shape.{Shape}
use Rattle.book.specs.Shape.{rulebook_of, shape_of}
use Rattle.book.specs.Layout.{last_date}
use Rattle.book.specs.Sound.{sound_as}

-- for a day of a rulebook and a date: "17: book not sound"; "18: book's rulebook is not the day's"; "9: date not later
-- than the book's"
unfoldable pub fits_fault : Shape → (rulebook date : ℕ) → List ℕ → ℕ
fits_fault shape rulebook date book =
    pick (not (sound_as shape book)) 17
    (pick (not (eqb (rulebook_of book) rulebook)) 18
    (pick (leb date (last_date book)) 9
    0))

-- the same of a book of offences
abbrev pub book_fault : (rulebook date : ℕ) → List ℕ → ℕ
book_fault rulebook date book = fits_fault (shape_of book) rulebook date book
