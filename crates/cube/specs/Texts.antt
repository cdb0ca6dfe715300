-- The texts by which pairs and triangles are shown. Assumes nothing.
use Rattle.std.specs.Prelude.{ℕ, List, ◌++◌, codes}
use Rattle.std.specs.Fmt.{decimal}
use Rattle.cube.specs.Pairs.{number, of_solid, of_hollow}
use Rattle.cube.specs.declared.pair.Pair.{Pair}
use Rattle.cube.specs.declared.triangle.CubeTriangle.{CubeTriangle}

-- The numbers of a pair, that of solid first, as in (18,6).
abbrev pub pair_text : Pair → List ℕ
pair_text p = codes "(" ++ decimal (number (of_solid p)) ++ codes "," ++ decimal (number (of_hollow p)) ++ codes ")"

-- What is said of two numbers that are not those of a pair.
abbrev pub no_pair_text : List ℕ
no_pair_text = codes "no such pair of connectedness"

-- The links of a triangle's corners in order, as in (0,4,8).
abbrev pub triangle_text : CubeTriangle → List ℕ
triangle_text t = codes "(" ++ decimal t.0 ++ codes "," ++ decimal t.1 ++ codes "," ++ decimal t.2 ++ codes ")"
