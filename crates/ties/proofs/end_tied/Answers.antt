use Rattle.demands.specs.Calls.{end_gives}
use Rattle.ties.proofs.end_tied.Goals as goal

pub returns : goal.returns
returns c = end_gives c.end.ensures
