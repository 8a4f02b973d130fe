-- 01, "Layouts": "Counts: 12,288 numbers of 32 bits, lent." What they hold after any list of steps, by the records.
use Rattle.std.specs.Prelude.{◌≡◌, List, [], ◌∷◌, ℕ, ◌*◌, ◌≤◌, length, get_or, drop}
use Rattle.daylog.specs.declared.record.Record.{Record}
use Rattle.daylog.specs.Header.{tables_of}
use Rattle.rules.specs.declared.kinds.Kinds.{Kinds}
use Rattle.rules.specs.Kinds.{most_kinds}
use Rattle.places.specs.Places.{cell_of, HasCell}
use Rattle.desk.specs.Offences.{kinds_on}
use Rattle.demands.specs.Counts.{times_of}
use Rattle.demands.specs.Calls.{Step}
use Rattle.demands.specs.Paper.{Course, idle, during, Paper, rule}

-- the number that stands in the cell of a group, a kind and a contract's place
abbrev pub cell_in : Kinds → List ℕ → (group kind place : ℕ) → ℕ
cell_in kinds c group kind place = get_or c (cell_of kinds group kind place) 0

-- ---- the day last opened, with the records that it took, whether it is still open, was ended, or was abandoned; idle
-- where none was: "Opening zeroes the first 12,288 counts", ending "leaves the counts", abandoning "writes nothing"
abbrev pub latest : Course → Course → Course
latest idle last = last
latest (during log rs) last = during log rs

unfoldable pub last_opened : Paper → Course → List Step → Course
last_opened p last [] = last
last_opened p last (c ∷ cs) =
    let after = (rule p p.course c).after in
    last_opened after (latest after.course last) cs

-- ---- what the counts hold that were lent
-- the cells of the most kinds: a day before may have had more kinds than the day last opened
abbrev pub most_cells : ℕ
most_cells = 4096 * most_kinds

-- a cell is the number of records that count for its group and kind on its contract, and 0 where there is no contract;
-- the numbers past the 12,288th are as they were lent
pub record CellsHold (log : List ℕ) (rs : List Record) (lent c : List ℕ) : Type 0 where
  pub long : length c ≡ length lent
  pub times : (group kind place : ℕ) → HasCell (kinds_on (tables_of log)) group kind place
      → cell_in (kinds_on (tables_of log)) c group kind place ≡ times_of (tables_of log) rs group kind place
  pub spare : (group kind place : ℕ) → HasCell (kinds_on (tables_of log)) group kind place
      → (tables_of log).contracts ≤ place → cell_in (kinds_on (tables_of log)) c group kind place ≡ 0
  pub past : drop most_cells c ≡ drop most_cells lent

-- before the first opening they are as they were lent
abbrev pub CountsHold : Course → (lent c : List ℕ) → Type 0
CountsHold idle lent c = c ≡ lent
CountsHold (during log rs) lent c = CellsHold log rs lent c
