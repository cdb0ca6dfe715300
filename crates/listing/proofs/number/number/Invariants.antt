use Rattle.listing.proofs.Numbers.{Front}
use Rattle.listing.proofs.number.number.Given as goal

abbrev pub invariant-loop-byte : goal.invariant-loop-byte
invariant-loop-byte l = Front l.text l.byte-index l.value
