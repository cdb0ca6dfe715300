-- What a patch holds. Assumes nothing.
use Rattle.std.specs.Prelude.{List, take}
use Rattle.cube.specs.declared.patch.Patch.{Patch}
use Rattle.cube.specs.declared.triangle.CubeTriangle.{CubeTriangle}

-- The triangles of a patch, in the order in which they are laid.
abbrev pub laid : Patch → List CubeTriangle
laid p = take p.count p.places
