-- Each turn takes a record, which has a byte.
use Rattle.std.proofs.Common.{length, ◌≤◌}
use Rattle.clerk.proofs.day.take_rows.Given as goal

abbrev pub invariant-loop-rest : goal.invariant-loop-rest
invariant-loop-rest l = length l.rest ≤ length l.rows

abbrev pub decreases-loop-rest : goal.decreases-loop-rest
decreases-loop-rest l = length l.rest
