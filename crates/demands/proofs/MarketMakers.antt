-- The market makers' table holds: its rows are computed. Assumes nothing.
use mathlib.Core.Path.{refl}
use Rattle.wire.specs.Choice.{pick}
use Rattle.wire.specs.Below.{every, some, first}
use Rattle.rules.specs.Choices.{by_three}
use Rattle.exemptions.specs.Exemption.{known, exempt}
use Rattle.rules.specs.Measure.{enough}
use Rattle.rules.specs.Ladders.{family}
use Rattle.tables.specs.Accounts.{account_place, is_in, group_in}
use Rattle.tables.specs.ContractEntries.{contract_place}
use Rattle.tables.specs.Tables.{contract_of, group_of}
use Rattle.counts.specs.Counting.{plan_for, plan_of, counts_as, counts_for}
use Rattle.desk.specs.Offences.{family_of}
use Rattle.years.specs.Days.{how_many}
use Rattle.demands.specs.Counts.{times_of, reaches_on, offence}
use Rattle.demands.specs.Starred.{all_hold}
use Rattle.demands.specs.MarketMakers.{day_on, maker_offends, market_makers, MarketMakers}

pub market_makers_lem : MarketMakers
unfolding market_makers maker_offends day_on all_hold pick every some first by_three known exempt enough family is_in
    contract_of group_of group_in account_place contract_place plan_for plan_of counts_as counts_for family_of
    how_many times_of reaches_on offence
market_makers_lem = refl
