use Rattle.std.specs.Io.KnownBytes.{Keeps}
use Rattle.listing.proofs.writing.write_some.Given as goal

-- Writes that were interrupted wrote nothing.
abbrev pub invariant-loop : goal.invariant-loop
invariant-loop g l = Keeps (g.W.Write.contents l.initial.to) (g.W.Write.contents l.to)
