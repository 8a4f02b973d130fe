use Rattle.demands.specs.Calls.{take_gives}
use Rattle.ties.proofs.take_tied.Goals as goal

pub returns : goal.returns
returns c = λ book out. take_gives c.take.ensures
