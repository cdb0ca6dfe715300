-- Worked cases. Assumes nothing.
use Rattle.std.specs.Float.{Float}
use Rattle.cube.specs.Samples as cube
use Rattle.drawing.specs.declared.letter.Letter.{Letter}
use Rattle.corner.specs.Fractions.{IsFraction}
use Rattle.corner.specs.Levels.{twice_level}
use Rattle.corner.specs.Precision.{IsRatio}

pub record Samples : Type 0 where
  -- The worked cases of the cube.
  pub in_cube : cube.Samples
  -- Between the readings 0 and 9 the surface at threshold 5 lies halfway, under both letters.
  pub halfway : (letter : Letter) → (x : Float) × IsFraction (twice_level (record { threshold = 5; letter = letter })) 0 9 x × IsRatio x 1 2
