use mathlib.Core.Path.{ap}
use native.Mathlib.Omega.{arith}
use Rattle.wire.proofs.AnswerLaws.{then_by}
use Rattle.wire.proofs.RefusalLaws.{accepted}
use Rattle.counts.specs.declared.weigh.Plan.{Plan}
use Rattle.counts.specs.declared.weigh.Reasons.{Reasons}
use Rattle.desk.specs.Take.{day_fault, take_fault, day_weighed}
use Rattle.wire.proofs.ChosenLaws.{chosen}
use Rattle.desk.proofs.HandedLaws.{held_head}
use Rattle.desk.proofs.take.take.Goals as goal

pub returns-in_default : goal.returns-in_default
unfolding take_fault
returns-in_default c = grind (arith, chosen)

pub returns-in_err-plan : goal.returns-in_err-plan
unfolding take_fault day_fault day_weighed
returns-in_err-plan c = grind (arith, chosen)

pub returns : goal.returns
unfolding take_fault day_fault day_weighed
returns c =
    let j = accepted _ _ c.in_ok-plan.ensures in
    let plan = ap (λ (w : Plan × Reasons). w.0) j.1 in
    let why = ap (λ (w : Plan × Reasons). w.1) j.1 in
    rw c.in-Open.is
    (then_by _ _ j.0 (rw (← held_head c.in-Open.day _ _ _ j.0, ← plan, ← why) c.count_record.ensures))
