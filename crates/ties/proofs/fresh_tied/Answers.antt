use Rattle.demands.specs.Calls.{fresh_gives}
use Rattle.ties.proofs.fresh_tied.Goals as goal

pub returns : goal.returns
returns c = λ state log counts out. fresh_gives c.fresh.ensures
