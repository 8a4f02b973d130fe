use Rattle.position_demands.specs.Calls.{fresh_gives}
use Rattle.position_demands.proofs.fresh_tied.Goals as goal

pub returns : goal.returns
returns c = λ out. fresh_gives c.fresh.ensures
