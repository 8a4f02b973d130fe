use Rattle.demands.specs.Calls.{ask_gives}
use Rattle.ties.proofs.ask_tied.Goals as goal

pub returns : goal.returns
returns c = λ state log counts out. ask_gives c.ask.ensures
