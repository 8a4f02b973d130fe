-- Demand 3 on a small year, as bytes and calls: two days from a fresh book of rulebook 1, with a record refused, and
-- the same with group 3 joined to group 4. Before, group 3 has one offence; after, both days are offences of group 4.
use Rattle.std.specs.Prelude.{◌≡◌, List, [], ◌∷◌, ◌++◌, ℕ, ◌+◌, replicate}
use Rattle.rules.specs.Kinds.{kinds_of}
use Rattle.places.specs.Places.{ladder_of}
use Rattle.book.specs.Layout.{total_at}
use Rattle.demands.specs.Days.{blank}
use Rattle.demands.specs.Calls.{Step, take_record, Desk, Given, numbers, left}
use Rattle.demands.specs.Logs.{clerk_desk}
use Rattle.demands.specs.Join.{join_log}
use Rattle.demands.specs.Demand3.{Run, SameNumbers}
use Rattle.demands.specs.Worked.{tables_for, trade_on, trade_row, whole_day}

-- ---- the bytes
-- a day of January 2024, 20240100 being 0x0134D6E4: account 11 is in a group that is chosen, account 12 in group 4
unfoldable pub year_tables : (day group : ℕ) → List ℕ
year_tables day group = tables_for ((0xE4 + day) ∷ 0xD6 ∷ 0x34 ∷ 0x01 ∷ []) group 4

-- ---- the calls
-- the clerk's buffers with a fresh book of rulebook 1; no day is open
abbrev pub year_desk : Desk
year_desk = clerk_desk (blank 1)

-- 2 January: four trades 11 to 12; a record with contract 102, which is refused; and one trade 11 to 11
unfoldable pub first_trades : List Step
first_trades =
    replicate 4 (take_record (trade_row 11 12))
    ++ (take_record (trade_on 102 11 12) ∷ take_record (trade_row 11 11) ∷ [])

-- 3 January: five trades 11 to 11
unfoldable pub second_trades : List Step
second_trades = replicate 5 (take_record (trade_row 11 11))

-- both days, each opened on its tables and ended
unfoldable pub year_with : (first second : List ℕ) → List Step
year_with first second = whole_day first first_trades ++ whole_day second second_trades

-- account 11 is in group 3
unfoldable pub year_steps : List Step
year_steps = year_with (year_tables 2 3) (year_tables 3 3)

-- the same with group 3 joined to group 4 in the tables of each day
unfoldable pub year_joined : List Step
year_joined = year_with (join_log 3 4 (year_tables 2 3)) (join_log 3 4 (year_tables 3 3))

-- the total of a group's self-trades in family 0
abbrev pub self_total : (book : List ℕ) (group : ℕ) → ℕ
self_total book group = total_at book (ladder_of (kinds_of 1) group 1 0)

-- the calls of both years have answers, and these are a run of demand 3
pub record WorkedYear : Type 0 where
  pub given : List Given
  pub given' : List Given
  pub run : Run 3 4 1 year_desk year_desk year_steps year_joined given given'
  -- a join changes a byte of each day's tables: account 11 is in group 4
  pub first_tables : join_log 3 4 (year_tables 2 3) ≡ year_tables 2 4
  pub second_tables : join_log 3 4 (year_tables 3 3) ≡ year_tables 3 4
  -- each call gets the number that it had: contract 102 is refused with 12, and no other call is refused
  pub same_numbers : SameNumbers given given'
  pub numbered : numbers given ≡ 0 ∷ 0 ∷ 0 ∷ 0 ∷ 0 ∷ 12 ∷ 0 ∷ 0 ∷ 0 ∷ 0 ∷ 0 ∷ 0 ∷ 0 ∷ 0 ∷ 0 ∷ []
  -- before: of group 3 the second day is an offence, and the first, with one self-trade, is not; group 4 has none
  pub before_3 : self_total (left year_desk given).book 3 ≡ 1
  pub before_4 : self_total (left year_desk given).book 4 ≡ 0
  -- after: the first day's four trades 11 to 12 count too, and both days are offences; group 3 has none any more
  pub after_3 : self_total (left year_desk given').book 3 ≡ 0
  pub after_4 : self_total (left year_desk given').book 4 ≡ 2
