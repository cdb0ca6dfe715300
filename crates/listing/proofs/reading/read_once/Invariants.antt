use Rattle.std.proofs.Common.{◌≡◌, length}
use Rattle.std.specs.Io.KnownBytes.{Keeps}
use Rattle.listing.proofs.reading.read_once.Given as goal

-- The room keeps its size, and reads that were interrupted took nothing.
abbrev pub invariant-loop : goal.invariant-loop
invariant-loop g l = record {
  room : length l.room ≡ length l.initial.room;
  kept : Keeps (g.R.Read.remaining l.initial.from) (g.R.Read.remaining l.from);
}
