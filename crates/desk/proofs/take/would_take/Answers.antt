use native.Mathlib.Omega.{arith}
use Rattle.desk.specs.Take.{day_fault, take_fault, would_take, day_weighed}
use Rattle.wire.proofs.ChosenLaws.{chosen}
use Rattle.desk.proofs.take.would_take.Goals as goal

pub returns-in_default : goal.returns-in_default
unfolding would_take take_fault
returns-in_default c = grind (arith, chosen)

pub returns-in_err-plan : goal.returns-in_err-plan
unfolding would_take take_fault day_fault day_weighed
returns-in_err-plan c = grind (arith, chosen)

pub returns-in_err-check_plan : goal.returns-in_err-check_plan
unfolding would_take take_fault day_fault day_weighed
returns-in_err-check_plan c = grind (arith, chosen)

pub returns : goal.returns
unfolding would_take take_fault day_fault day_weighed
returns c = grind (arith, chosen)
