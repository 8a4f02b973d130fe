-- A write that failed put nothing.
use Rattle.std.specs.Io.KnownBytes.{Keeps}
use Rattle.files.proofs.output.write_some.Given as goal

abbrev pub invariant-loop : goal.invariant-loop
invariant-loop g l = Keeps (g.W.Write.contents l.initial.to) (g.W.Write.contents l.to)
