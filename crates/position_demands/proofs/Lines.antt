-- The rows of specs/Lines, computed. Assumes nothing.
use mathlib.Core.Path.{refl}
use Rattle.wire.specs.Choice.{pick}
use Rattle.wire.specs.Below.{every, some, count, sum, first}
use Rattle.rules.specs.Choices.{by_three}
use Rattle.rules.specs.Ladders.{family}
use Rattle.tables.specs.Accounts.{account_place, is_in, group_in, group_size}
use Rattle.positions.specs.LimitEntries.{limit_place}
use Rattle.positions.specs.Offences.{group_on, place_on, is_of, held_of, over_either, is_many, family_of, over_on}
use Rattle.positions.specs.Offences.{offence}
use Rattle.position_demands.specs.Lines.{day_with, over, lines, all_hold, Lines}

pub lines_hold : Lines
unfolding lines all_hold over day_with offence over_on family_of is_many over_either held_of is_of place_on group_on
    limit_place group_size group_in is_in account_place family by_three first sum count some every pick
lines_hold = refl
