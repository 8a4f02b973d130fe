-- 01, "Layouts": "Book, 12,304 bytes: 0..2 mark 41 58 42 ("AXB"); 3 rulebook; 4..5 version, 1; 6..9 last date, 0 when
-- none; 10..15 zero; then 6,144 totals of 16 bits."
use Rattle.std.specs.Prelude.{ℕ, ◌+◌, ◌*◌, List, [], ◌∷◌, ◌++◌}
use Rattle.wire.specs.Bytes.{le, bytes}
use Rattle.wire.specs.Buffers.{rows}
use Rattle.book.specs.declared.shape.Shape.{Shape}
use Rattle.places.specs.Places.{ladders}
use Rattle.book.specs.Shape.{day_shape}

-- the three bytes of the mark: "AX" and the shape's letter
abbrev pub mark : ℕ → List ℕ
mark letter = 0x41 ∷ 0x58 ∷ letter ∷ []

abbrev pub last_date : List ℕ → ℕ
last_date b = le 4 b 6

abbrev pub total_at : List ℕ → ℕ → ℕ
total_at b ladder = le 2 b (16 + 2 * ladder)

-- ---- a book written
-- the mark, the rulebook, version 1, the last date, six zero bytes
unfoldable pub head_of : (letter rulebook date : ℕ) → List ℕ
head_of letter rulebook date =
    mark letter ++ ((rulebook ∷ []) ++ (bytes 2 1 ++ (bytes 4 date ++ (bytes 2 0 ++ bytes 4 0))))

-- the book of a shape, with a rulebook, a last date and a total for each ladder
unfoldable pub book_as : Shape → (rulebook date : ℕ) → (ℕ → ℕ) → List ℕ
book_as shape rulebook date total =
    head_of shape.letter rulebook date ++ rows (λ l. bytes 2 (total l)) (ladders shape.kinds)

-- the book of a rulebook's offences
abbrev pub book_of : (rulebook date : ℕ) → (ℕ → ℕ) → List ℕ
book_of rulebook = book_as (day_shape rulebook) rulebook
