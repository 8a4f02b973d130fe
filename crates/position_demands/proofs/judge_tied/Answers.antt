use Rattle.position_demands.specs.Calls.{judge_gives}
use Rattle.position_demands.proofs.judge_tied.Goals as goal

pub returns : goal.returns
returns c = judge_gives c.judge.ensures
