-- Each step takes a byte or more of what is left.
use Rattle.std.proofs.Common.{length}
use Rattle.replay.proofs.steps.Given as goal

abbrev pub decreases-loop-rest : goal.decreases-loop-rest
decreases-loop-rest l = length l.rest
