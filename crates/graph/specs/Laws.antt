-- What holds of the loops of every cube. Assumes nothing.
use Rattle.cube.specs.Cube.{Kinds}
use Rattle.cube.specs.Loops.{loops}
use Rattle.cube.specs.Laws.{Looped}
use Rattle.cube.specs.declared.pair.Connectedness.{Connectedness}

-- The loops of a cube of any kinds, under each connectedness of solid, have three to seven corners each, and each corner of the
-- cube is in just one of them.
abbrev pub AllLooped : Type 0
AllLooped = (s : Connectedness) (k : Kinds) → Looped k (loops s k)
