-- The example of specs/Example is as it says: all of it is computed. Assumes nothing.
use mathlib.Core.Path.{◌≡◌, refl}
use mathlib.Core.Bool.{Bool, true, false}
use native.Mathlib.Omega.{arith}
use lib.Dec.{eqb}
use Rattle.wire.specs.Choice.{pick}
use Rattle.wire.specs.Below.{every, some, first}
use Rattle.wire.specs.Bytes.{le, bytes}
use Rattle.rules.specs.Choices.{by_three}
use Rattle.exemptions.specs.Exemption.{known, exempt}
use Rattle.rules.specs.Measure.{enough}
use Rattle.rules.specs.Ladders.{family, rung, sanction}
use Rattle.rules.specs.Kinds.{kinds_of, kinds_in, first_kind}
use Rattle.book.specs.Shape.{day_shape}
use Rattle.book.specs.Layout.{head_of, book_as}
use Rattle.tables.specs.Accounts.{account_place, has_member, is_in, group_in}
use Rattle.tables.specs.ContractEntries.{contract_place}
use Rattle.tables.specs.Tables.{contract_of, group_of, member_on}
use Rattle.joining.specs.Joining.{joined}
use Rattle.counts.specs.Counting.{plan_for, plan_of, counts_as, counts_for}
use Rattle.verdict.specs.Verdict.{offends}
use Rattle.years.specs.Days.{how_many, offence_on, offence_days, carried, total_over, blank_as}
use Rattle.years.specs.Restrictions.{sanction_on, sanctions}
use Rattle.desk.specs.Offences.{family_of, reached_at, lowest, lowest_on, verdict_on}
use Rattle.demands.specs.Counts.{times_of, times_on}
use Rattle.demands.specs.Join.{Joined}
use Rattle.demands.specs.Example.{tables_with, own_trade, trading_day, days_with, three_alone, three_or_five}
use Rattle.demands.specs.Example.{WhyThreeOrFive}

-- an entry's group: the first is account 11's, the others are in 2
group_joins : (first : Bool) → pick first 2 2 ≡ joined 1 2 (pick first 1 2)
unfolding pick
group_joins true = refl
group_joins false = refl

tables_join : Joined 1 2 (tables_with 1) (tables_with 2)
unfolding tables_with
tables_join = record {
  text = refl;
  contracts = refl;
  contract = λ k. refl;
  accounts = refl;
  account = record { number = λ k. refl; kind = λ k. refl; group = λ k. group_joins (eqb k 0) };
}

-- the four numbers
numbers : (three_alone 1 (days_with 1) ≡ 1) × (three_alone 2 (days_with 2) ≡ 0)
    × (three_or_five 1 (days_with 1) ≡ 1) × (three_or_five 2 (days_with 2) ≡ 1)
unfolding three_alone three_or_five days_with trading_day tables_with own_trade sanctions sanction_on offence_days
    offence_on total_over carried blank_as book_as head_of le bytes offends verdict_on day_shape lowest_on lowest
    reached_at times_on times_of how_many member_on has_member family_of counts_for counts_as plan_of plan_for
    group_of group_in contract_of is_in account_place contract_place kinds_of kinds_in first_kind sanction rung family
    enough exempt known by_three first some every pick
numbers = (refl, refl, refl, refl)

pub why_three_or_five : WhyThreeOrFive
why_three_or_five = record {
  joined = tables_join;
  three_before = numbers.0;
  three_after = numbers.1;
  three_lost = λ h. omega (arith, numbers.0, numbers.1);
  either_before = numbers.2;
  either_after = numbers.3;
}
