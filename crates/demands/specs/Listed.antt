-- 01, "The calls and their refusals": what a day's findings as bytes say, by its tables and records.
use Rattle.std.specs.Prelude.{◌≡◌, true, false, List, ℕ, ◌<◌}
use Rattle.daylog.specs.declared.record.Record.{Record}
use Rattle.tables.specs.Tables.{Tables}
use Rattle.years.specs.Listed.{ladder_in, Lists as ListsBy}
use Rattle.desk.specs.Offences.{kinds_on, lowest_on}
use Rattle.demands.specs.Counts.{times_on, reaches_at, day_verdict}

-- the place is that of the lowest contract of the ladder's family that reached the number
pub record Lowest (t : Tables) (rs : List Record) (ladder place : ℕ) : Type 0 where
  pub there : place < t.contracts
  pub reaches : reaches_at t rs ladder place ≡ true
  pub none_below : (k : ℕ) → k < place → reaches_at t rs ladder k ≡ false

-- `bs` is the list of n findings of a day with these tables and records, of a date, on a book
pub record Lists (t : Tables) (rs : List Record) (date : ℕ) (book bs : List ℕ) (n : ℕ) : Type 0 where
  -- each offence once, in order, with its sanction, its total and a contract's id
  pub lists : ListsBy (day_verdict t rs) date book bs n
  -- that of the lowest contract
  pub lowest : (j : ℕ) → j < n → (let l = ladder_in (kinds_on t) bs j in Lowest t rs l (lowest_on t (times_on t rs) l))
