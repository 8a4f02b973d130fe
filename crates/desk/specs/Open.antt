-- 01, "The calls and their refusals": opening a day. "Open: 10, 1 (under 16), 2, 3, 4, 5, 6, 1, 7, 8, 17, 18, 9, 16."
use Rattle.std.specs.Prelude.{ℕ, List, ◌++◌, ltb, length, drop, replicate, Result, Ok}
use Rattle.wire.specs.Choice.{pick, or_else}
use Rattle.wire.specs.Outcomes.{refused, Outcome}
use Rattle.wire.specs.declared.refusal.Refusal.{Refusal}
use Rattle.rules.specs.declared.kinds.Kinds.{Kinds}
use Rattle.rules.specs.Kinds.{kinds_of}
use Rattle.daylog.specs.declared.header.Header.{Header}
use Rattle.daylog.specs.Header.{header_of, log_fault}
use Rattle.places.specs.Places.{cells}
use Rattle.book.specs.Fits.{book_fault}
use Rattle.desk.specs.declared.state.Day.{Day}
use Rattle.desk.specs.declared.state.State.{State}
use Rattle.desk.specs.declared.state.State.TheVariants.{Closed, Open}

-- the kinds of the rulebook that a header names
abbrev pub kinds_for : Header → Kinds
kinds_for h = kinds_of h.rulebook

-- "16: counts buffer under 12,288", where `len` counts are lent
unfoldable pub few_fault : Kinds → (len : ℕ) → ℕ
few_fault kinds len = pick (ltb len (cells kinds)) 16 0

-- the refusals where no day is open: 1 to 8, then 17, 18, 9, then 16
unfoldable pub handed_fault : (log book : List ℕ) → (len : ℕ) → ℕ
handed_fault log book len =
    let h = header_of log in
    or_else (log_fault log) (or_else (book_fault h.rulebook h.date book) (few_fault (kinds_for h) len))

unfoldable pub open_fault : State → (log book : List ℕ) → (len : ℕ) → ℕ
open_fault (Open day) log book len = 10
open_fault Closed log book len = handed_fault log book len

-- the day of a log, with no record taken
abbrev pub day_of : List ℕ → Day
day_of log = record { head = header_of log; taken = 0 }

-- "Opening zeroes the first 12,288 counts."
unfoldable pub zeroed : Kinds → List ℕ → List ℕ
zeroed kinds c = replicate (cells kinds) 0 ++ drop (cells kinds) c

-- what `open` gives: the open day or the refusal, and the counts
abbrev pub OpenGives : State → (log book c : List ℕ) → Result State Refusal → List ℕ → Type 0
OpenGives state log book c =
    Outcome (open_fault state log book (length c)) (Ok (Open (day_of log))) refused
    (zeroed (kinds_for (header_of log)) c) c
