-- The floats that places and points are told in. Assumes nothing.
use Rattle.std.specs.Prelude.{ℕ, pos, false}
use Rattle.std.specs.Float.{Float, Format, binary32}
use Rattle.std.specs.Float.Ieee
use lib.Ieee.Exact.{HasValue}

-- Single precision.
abbrev pub format : Format
format = binary32

-- The float nearest to a whole number.
abbrev pub whole : Format → ℕ → Float
whole f n = Ieee.of_int f (pos n)

-- A float is the ratio n / d, exactly, for a d above 0. It is not -0.
abbrev pub IsRatio : Float → ℕ → ℕ → Type 0
IsRatio x n d = HasValue x false n d
