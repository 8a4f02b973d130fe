-- 01, "Layouts": "when a day ends, the 96 bytes of one group are lent on to be written"; "Ladders": the totals after
-- a day.
use Rattle.std.specs.Prelude.{ℕ, ◌+◌, ◌*◌, ◌/◌, ◌%◌, Bool, List, ltb, length, get_or}
use Rattle.wire.specs.Choice.{pick}
use Rattle.wire.specs.Bytes.{le, bytes}
use Rattle.wire.specs.Buffers.{put, rows}
use Rattle.calendar.specs.Dates.{year}
use Rattle.book.specs.Layout.{last_date}

-- "a day of a later year than the book's clears all"
abbrev pub later_year : List ℕ → ℕ → Bool
later_year book date = ltb (year (last_date book)) (year date)

-- a total after a day: from zero in a later year, and one more with an offence. It has 16 bits, and no sound book's
-- total comes near their end.
unfoldable pub next_total : (later hit : Bool) → ℕ → ℕ
next_total later hit total = (pick later 0 total + pick hit 1 0) % 65536

-- the place of a contract that stands for ladder j; past the end 255, which is no contract's
unfoldable pub place_in : List ℕ → ℕ → ℕ
place_in places j = get_or places j 255

-- whether the ladder has an offence: its place is that of a contract
abbrev pub hit_at : List ℕ → ℕ → ℕ → Bool
hit_at places contracts j = ltb (place_in places j) contracts

-- a group's part of the book after the day; its ladders' places begin at `from`
unfoldable pub raised_part : List ℕ → Bool → List ℕ → (from contracts : ℕ) → List ℕ
raised_part part later places from contracts =
    put part 0
    (rows (λ j. bytes 2 (next_total later (hit_at places contracts (from + j)) (le 2 part (2 * j)))) (length part / 2))
