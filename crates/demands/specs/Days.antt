-- 01, "Ladders": the days of a run, by their tables and records; totals over them are those of the days as written.
use Rattle.std.specs.Prelude.{ℕ, Bool, List, map}
use Rattle.book.specs.Shape.{day_shape}
use Rattle.daylog.specs.declared.record.Record.{Record}
use Rattle.daylog.specs.Header.{header_of, tables_of}
use Rattle.tables.specs.Tables.{Tables}
use Rattle.years.specs.Days.{WrittenDay, blank_as}
use Rattle.demands.specs.Counts.{times_of, offence, day_verdict}

-- a day that was ended: its date, its tables, the records that it took
pub record PastDay : Type 0 where
  pub date : ℕ
  pub tables : Tables
  pub records : List Record

-- the day of a header with tables, and of its records
abbrev pub ended_day : List ℕ → List Record → PastDay
ended_day log rs = record { date = (header_of log).date; tables = tables_of log; records = rs }

-- how many of its records count for a group and a kind on a contract; whether it was an offence
abbrev pub times_in : PastDay → (group kind place : ℕ) → ℕ
times_in d = times_of d.tables d.records

abbrev pub offence_in : PastDay → (group kind family : ℕ) → Bool
offence_in d = offence d.tables d.records

-- the day as it was written to a book: its end went by its tables and its records
abbrev pub written : PastDay → WrittenDay
written d = record { date = d.date; verdict = day_verdict d.tables d.records }

abbrev pub all_written : List PastDay → List WrittenDay
all_written days = map written days

-- a fresh book of a rulebook's offences
abbrev pub blank : ℕ → List ℕ
blank rulebook = blank_as (day_shape rulebook) rulebook
