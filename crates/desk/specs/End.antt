-- 01, "The calls and their refusals": ending a day. "End: 10, 1, 16, 19 (tables), 11, 15, 17, 18, 9, 19 (cells), 20."
use Rattle.std.specs.Prelude.{ℕ, Bool, not, List, leb, eqb, length, get_or, Result, Ok, Err}
use Rattle.wire.specs.Choice.{pick, or_else}
use Rattle.wire.specs.Outcomes.{answered, refused, Outcome}
use Rattle.wire.specs.declared.refusal.Refusal.{Refusal}
use Rattle.wire.specs.Below.{every}
use Rattle.wire.specs.Bytes.{le}
use Rattle.rules.specs.declared.kinds.Kinds.{Kinds}
use Rattle.daylog.specs.Records.{end_good}
use Rattle.daylog.specs.Changed.{changed_fault}
use Rattle.tables.specs.Tables.{Tables}
use Rattle.daylog.specs.Header.{tables_of}
use Rattle.places.specs.Places.{cells, cell_of, group_at, kind_at}
use Rattle.book.specs.Fits.{book_fault}
use Rattle.verdict.specs.Verdict.{Verdict, found_count}
use Rattle.verdict.specs.Settle.{short_fault, written}
use Rattle.desk.specs.declared.state.Day.{Day}
use Rattle.desk.specs.declared.state.State.{State}
use Rattle.desk.specs.declared.state.State.TheVariants.{Closed, Open}
use Rattle.desk.specs.Take.{sizes_fault}
use Rattle.desk.specs.Offences.{kinds_on, verdict_on}

-- what the call is handed: 1 and 16 as for taking, and "19: changed since opening", of the tables
unfoldable pub call_fault : Day → (log row : List ℕ) → (len : ℕ) → ℕ
call_fault day log row len = or_else (sizes_fault day row len) (changed_fault day.head log)

-- "11: .. wrong type for the call"; "15: end record's number is not the records taken"
unfoldable pub row_fault : Day → List ℕ → ℕ
row_fault day row =
    pick (not (end_good row)) 11
    (pick (not (eqb (le 4 row 4) day.taken)) 15
    0)

-- "A cell is changed when it stands above the number of records taken; .. ending [looks] at all 12,288"
unfoldable pub cells_good : Kinds → (taken : ℕ) → List ℕ → Bool
cells_good kinds taken c = every (λ i. leb (get_or c i 0) taken) (cells kinds)

-- 19 for a cell
unfoldable pub cells_fault : Kinds → (taken : ℕ) → List ℕ → ℕ
cells_fault kinds taken c = pick (not (cells_good kinds taken c)) 19 0

-- the times in the cells, for each ladder's group and kind and a contract's place
unfoldable pub in_cells : Kinds → List ℕ → (ladder place : ℕ) → ℕ
in_cells kinds c ladder place = get_or c (cell_of kinds (group_at kinds ladder) (kind_at kinds ladder) place) 0

-- the day's verdict by its cells
abbrev pub cell_verdict : Tables → List ℕ → Verdict
cell_verdict t c = verdict_on t (in_cells (kinds_on t) c)

-- 19 for a cell, then 20; `room` is that of the findings
unfoldable pub counts_fault : Day → Tables → List ℕ → (room : ℕ) → ℕ
counts_fault day t c room = or_else (cells_fault (kinds_on t) day.taken c) (short_fault (cell_verdict t c) room)

-- the refusals of what the call is handed, in their order; `len` counts are lent
unfoldable pub lent_fault : Day → (log row book : List ℕ) → (len : ℕ) → ℕ
lent_fault day log row book len =
    or_else (call_fault day log row len)
    (or_else (row_fault day row)
    (book_fault day.head.rulebook day.head.date book))

unfoldable pub end_fault : State → (log row book c : List ℕ) → (room : ℕ) → ℕ
end_fault Closed log row book c room = 10
end_fault (Open day) log row book c room =
    or_else (lent_fault day log row book (length c)) (counts_fault day (tables_of log) c room)

-- the date of an open day, 0 where none is open
abbrev pub date_of : State → ℕ
date_of Closed = 0
date_of (Open day) = day.head.date

-- an answer's value, the number of findings, 0 of a refusal
abbrev pub end_found : Result (State × ℕ) Refusal → ℕ
end_found (Ok closed) = closed.1
end_found (Err why) = 0

-- a day of a date with its tables and counts ends, unless `fault`: the day closed with the number of findings, or the
-- refusal; the book, and the findings
abbrev pub DayEnds : (fault date : ℕ) → Tables → (book c out : List ℕ)
    → Result (State × ℕ) Refusal → (book' out' : List ℕ) → Type 0
DayEnds fault date t book c out a book' out' =
    let v = cell_verdict t c in
    Outcome fault (Ok (Closed, found_count v)) refused (written v date book out) (book, out) a (book', out')

-- what `end` gives
abbrev pub EndGives : State → (log row book c out : List ℕ)
    → Result (State × ℕ) Refusal → (book' out' : List ℕ) → Type 0
EndGives state log row book c out =
    DayEnds (end_fault state log row book c (length out)) (date_of state) (tables_of log) book c out

-- what `would_end` gives: the number of findings, or the refusal
unfoldable pub day_found : (fault : ℕ) → Tables → List ℕ → Result ℕ Refusal
day_found fault t c = answered fault (Ok (found_count (cell_verdict t c))) refused

abbrev pub would_end : State → (log row book c : List ℕ) → (room : ℕ) → Result ℕ Refusal
would_end state log row book c room = day_found (end_fault state log row book c room) (tables_of log) c
