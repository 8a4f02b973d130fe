use Rattle.demands.specs.Calls.{abandon_gives}
use Rattle.ties.proofs.abandon_tied.Goals as goal

pub returns : goal.returns
returns c = λ log counts book out. abandon_gives c.abandon.ensures
