-- A read that failed took nothing.
use Rattle.std.specs.Io.KnownBytes.{Keeps}
use Rattle.files.proofs.input.read_some.Given as goal

abbrev pub invariant-loop : goal.invariant-loop
invariant-loop g l = Keeps (g.R.Read.remaining l.initial.from) (g.R.Read.remaining l.from)
