-- The tube between two loops of three, written out. Assumes nothing.
use Rattle.std.specs.Prelude.{List, [], ◌∷◌}
use Rattle.cube.specs.Cutting.{triangle}
use Rattle.cube.specs.declared.triangle.CubeTriangle.{CubeTriangle}

-- Both loops begin with their link along x, and one runs on by y and z, the other by z and y.
abbrev pub tube_between : CubeTriangle → CubeTriangle → List CubeTriangle
tube_between a b =
    triangle a.0 a.1 b.1 ∷
    triangle b.0 a.1 a.2 ∷
    triangle a.0 b.2 a.2 ∷
    triangle b.0 b.1 a.1 ∷
    triangle a.0 b.1 b.2 ∷
    triangle b.0 a.2 b.2 ∷
    []
