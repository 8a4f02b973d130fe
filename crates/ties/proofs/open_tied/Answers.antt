use Rattle.demands.specs.Calls.{open_gives}
use Rattle.ties.proofs.open_tied.Goals as goal

pub returns : goal.returns
returns c = λ held out. open_gives c.before.before.«open».ensures
