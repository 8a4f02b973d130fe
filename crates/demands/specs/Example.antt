-- Why demand 3 counts "findings with sanction 3 or 5" and not those with 3 alone: in rulebook 1 a group that gets a
-- member by the join has 5 where it had 3. One example shows it.
use Rattle.std.specs.Prelude.{◌≡◌, List, [], ◌∷◌, ℕ, ◌+◌, ◌≤◌, eqb, replicate}
use Rattle.wire.specs.Choice.{pick}
use Rattle.rules.specs.Kinds.{kinds_of}
use Rattle.places.specs.Places.{ladder_of}
use Rattle.daylog.specs.declared.record.Record.{Record}
use Rattle.tables.specs.Tables.{Tables}
use Rattle.years.specs.Restrictions.{sanctions, restrictions}
use Rattle.demands.specs.Days.{PastDay, all_written, blank}
use Rattle.demands.specs.Samples.{futures, plain_trade}
use Rattle.demands.specs.Join.{Joined}

-- ---- the days
-- rulebook 1 and one futures contract, 101; account 11, a client, in a group, and account 12, a non-broker member, in
-- group 2
unfoldable pub tables_with : (group : ℕ) → Tables
tables_with group = record {
  text = record { rulebook = 1 };
  contracts = 1;
  contract = λ place. futures 101 1000;
  accounts = 2;
  account = λ place. record {
    number = 11 + place;
    group = pick (eqb place 0) group 2;
    kind = pick (eqb place 0) 1 2;
    spare = 0;
  };
}

-- account 11 trades with itself
unfoldable pub own_trade : Record
own_trade = plain_trade 11 11

-- five of them, and so an offence
unfoldable pub trading_day : (date group : ℕ) → PastDay
trading_day date group = record { date = date; tables = tables_with group; records = replicate 5 own_trade }

-- three days of January 2024, the latest first, with account 11 in a group: in 1, and after the join in 2
unfoldable pub days_with : (group : ℕ) → List PastDay
days_with group = trading_day 20240104 group ∷ trading_day 20240103 group ∷ trading_day 20240102 group ∷ []

-- ---- the two ways to count, in 2024, on the ladder of a group for self-trades in futures
-- findings with sanction 3
unfoldable pub three_alone : (group : ℕ) → List PastDay → ℕ
three_alone group days = sanctions (λ s. eqb s 3) (blank 1) 2024 (ladder_of (kinds_of 1) group 1 0) (all_written days)

-- findings with an opening restriction: of kinds 1 to 3 it is sanction 3 or 5
unfoldable pub three_or_five : (group : ℕ) → List PastDay → ℕ
three_or_five group days = restrictions (blank 1) 2024 (ladder_of (kinds_of 1) group 1 0) (all_written days)

pub record WhyThreeOrFive : Type 0 where
  -- the tables after are those before with group 1 joined to group 2
  pub joined : Joined 1 2 (tables_with 1) (tables_with 2)
  -- by 3 alone: group 1 had one before, and the joined group has none after
  pub three_before : three_alone 1 (days_with 1) ≡ 1
  pub three_after : three_alone 2 (days_with 2) ≡ 0
  -- so by 3 alone the demand, that the joined group has no fewer, would be false
  pub three_lost : three_alone 1 (days_with 1) ≤ three_alone 2 (days_with 2) → ⊥
  -- by 3 or 5: one before, and one after
  pub either_before : three_or_five 1 (days_with 1) ≡ 1
  pub either_after : three_or_five 2 (days_with 2) ≡ 1
