use native.Mathlib.Omega.{arith}
use Rattle.counts.specs.Weigh.{weighed_on}
use Rattle.desk.specs.Take.{held_fault, day_weighed}
use Rattle.wire.proofs.ChosenLaws.{chosen}
use Rattle.desk.proofs.handed.Handed.weigh_day.Goals as goal

pub returns-in_err-check_sizes : goal.returns-in_err-check_sizes
unfolding day_weighed held_fault
returns-in_err-check_sizes c = grind (arith, chosen)

pub returns : goal.returns
unfolding day_weighed held_fault weighed_on
returns c = grind (arith, chosen)
