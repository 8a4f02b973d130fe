-- 01, "Layouts": "A sound book has this length, these values, a rulebook of 1 or 2, a real date or 0, no total above
-- the day number of that date in its year (all zero where it is 0), and in rulebook 1 zero in families 2 to 15."
use Rattle.std.specs.Prelude.{ℕ, Bool, ◌&&◌, ◌||◌, List, leb, eqb, length, get_or}
use Rattle.wire.specs.Choice.{pick}
use Rattle.wire.specs.Below.{every}
use Rattle.wire.specs.Bytes.{le}
use Rattle.calendar.specs.Dates.{real_day, day_number}
use Rattle.rules.specs.declared.kinds.Kinds.{Kinds}
use Rattle.rules.specs.Codes.{is_rulebook}
use Rattle.book.specs.declared.shape.Shape.{Shape}
use Rattle.places.specs.Places.{ladders, book_size, family_at}
use Rattle.book.specs.Shape.{rulebook_of, shape_of}
use Rattle.book.specs.Layout.{mark, last_date, total_at}

abbrev pub mark_good : ℕ → List ℕ → Bool
mark_good letter b =
    eqb (get_or b 0 0) (get_or (mark letter) 0 0) && eqb (get_or b 1 0) (get_or (mark letter) 1 0)
    && eqb (get_or b 2 0) (get_or (mark letter) 2 0)

unfoldable pub head_good : ℕ → List ℕ → Bool
head_good letter b =
    mark_good letter b && is_rulebook (rulebook_of b) && eqb (le 2 b 4) 1 && eqb (le 2 b 10) 0 && eqb (le 4 b 12) 0
    && (eqb (last_date b) 0 || real_day (last_date b))

-- the most that the total at a ladder may be
unfoldable pub most_of : (rulebook day ladder : ℕ) → ℕ
most_of rulebook day ladder = pick (eqb rulebook 1 && leb 2 (family_at ladder)) 0 day

unfoldable pub totals_good : Kinds → List ℕ → (rulebook day : ℕ) → Bool
totals_good kinds b rulebook day = every (λ l. leb (total_at b l) (most_of rulebook day l)) (ladders kinds)

-- a sound book of a shape; the day number of no date, 0, is 0
unfoldable pub sound_as : Shape → List ℕ → Bool
sound_as shape b =
    eqb (length b) (book_size shape.kinds) && head_good shape.letter b
    && totals_good shape.kinds b (rulebook_of b) (day_number (last_date b))

-- a sound book of a rulebook's offences
abbrev pub sound : List ℕ → Bool
sound b = sound_as (shape_of b) b
