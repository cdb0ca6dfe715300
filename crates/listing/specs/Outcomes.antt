-- The exit status by which the end of an output is told. Assumes nothing.
use Rattle.std.specs.Prelude.{ℕ}
use Rattle.listing.specs.declared.outcome.Outcome.{Outcome}
use Rattle.listing.specs.declared.outcome.Outcome.TheVariants.{Finished, Refused}

-- The exit status that tells an outcome.
abbrev pub status : Outcome → ℕ
status Finished = 0
status Refused = 1
