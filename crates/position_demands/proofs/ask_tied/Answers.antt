use Rattle.position_demands.specs.Calls.{ask_gives}
use Rattle.position_demands.proofs.ask_tied.Goals as goal

pub returns : goal.returns
returns c = λ out. ask_gives c.ask.ensures
