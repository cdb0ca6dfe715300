-- How far along its link a corner lies. Assumes nothing.
use Rattle.std.specs.Prelude.{◌≡◌, ℕ, ◌*◌, ◌^◌, ◌≤◌, false}
use Rattle.std.specs.Int.{abs_diff}
use Rattle.std.specs.Float.{Float, Format, float_zero, float_one, ◌<ᶠ◌}
use Rattle.std.specs.Float.Ieee
use Rattle.corner.specs.Levels.{PassesAt}
use Rattle.corner.specs.Precision.{format, whole, IsRatio}

-- How far a level, told doubled, lies from the lower reading, and how far the readings lie apart, both doubled.
abbrev pub to_level : (level low : ℕ) → ℕ
to_level level low = abs_diff level (2 * low)

abbrev pub whole_way : (low high : ℕ) → ℕ
whole_way low high = 2 * abs_diff high low

-- x is the quotient of two whole numbers by one division: both are floats exactly, and their ratio is rounded once.
pub record IsQuotient (f : Format) (n d : ℕ) (x : Float) : Type 0 where
  pub upper : IsRatio (whole f n) n 1
  pub lower : IsRatio (whole f d) d 1
  pub divided : x ≡ Ieee.div f (whole f n) (whole f d)
  pub rounded : x ≡ Ieee.round f false n d

-- x is a whole number of parts, 2 ^ bits of them to one, and is off the ratio n / d by at most a margin of parts.
pub record IsNear (bits margin n d : ℕ) (x : Float) : Type 0 where
  pub parts : ℕ
  pub counted : IsRatio x parts (2 ^ bits)
  pub within : abs_diff (parts * d) (n * 2 ^ bits) ≤ margin * d

-- x lies strictly between 0 and 1.
pub record IsProper (x : Float) : Type 0 where
  pub above_zero : float_zero <ᶠ x
  pub below_one : x <ᶠ float_one

-- x is the fraction of a link at which its readings pass a level, told doubled.
pub record IsFraction (level low high : ℕ) (x : Float) : Type 0 where
  pub passes : PassesAt level low high (to_level level low) (whole_way low high)
  pub quotient : IsQuotient format (to_level level low) (whole_way low high) x
  pub proper : IsProper x
  pub near : IsNear 40 (2 ^ 15) (to_level level low) (whole_way low high) x
