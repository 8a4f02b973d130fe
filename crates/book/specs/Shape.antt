-- 01, "Layouts": "Book, .. 0..2 mark 41 58 42 ("AXB")". A book's shape is its mark and the kinds that it keeps.
use Rattle.std.specs.Prelude.{ℕ, List, get_or}
use Rattle.rules.specs.Kinds.{kinds_of}
use Rattle.book.specs.declared.shape.Shape.{Shape}

-- "AXB", the book of a rulebook's offences
unfoldable pub day_shape : ℕ → Shape
day_shape rulebook = record { letter = 0x42; kinds = kinds_of rulebook }

abbrev pub rulebook_of : List ℕ → ℕ
rulebook_of b = get_or b 3 0

-- the shape that a book has by the rulebook that it names
abbrev pub shape_of : List ℕ → Shape
shape_of b = day_shape (rulebook_of b)
