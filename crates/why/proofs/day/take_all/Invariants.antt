-- No more lines than records.
use Rattle.std.proofs.Common.{◌≤◌}
use Rattle.why.proofs.day.take_all.Given as goal

abbrev pub invariant-loop-turn : goal.invariant-loop-turn
invariant-loop-turn l = l.lines ≤ l.turn
