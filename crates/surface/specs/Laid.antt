-- The triangles that the cubes of a scan lay, in the scan's link numbers. Assumes nothing.
use Rattle.std.specs.Prelude.{List, [], ◌∷◌, ◌++◌, map, ℕ, zero, suc, flat_map}
use Rattle.grid.specs.declared.sides.Sides.{Sides}
use Rattle.grid.specs.declared.voxel.Voxel.{Voxel}
use Rattle.cube.specs.Triangles.{triangles}
use Rattle.cube.specs.declared.pair.Pair.{Pair}
use Rattle.cube.specs.declared.triangle.CubeTriangle.{CubeTriangle}
use Rattle.surface.specs.Places.{Solids, kinds_at, number_at, low_of}

-- A triangle, by the numbers of the links that carry its corners.
abbrev pub Triangle : Type 0
Triangle = ℕ × ℕ × ℕ

-- A triangle of the cube with a low voxel, its cube links replaced by the scan's link numbers.
abbrev pub numbered : Sides → Voxel → CubeTriangle → Triangle
numbered s low t = (number_at s low t.0, number_at s low t.1, number_at s low t.2)

-- The triangles of one cube: those of the rules at the kinds of its voxels.
abbrev pub laid_at : Sides → Pair → Solids → Voxel → List Triangle
laid_at s p solid low = map (numbered s low) (triangles p (kinds_at solid low))

-- The triangles of the first n cubes, cube after cube.
abbrev pub laid : Sides → Pair → Solids → ℕ → List Triangle
laid s p solid zero = []
laid s p solid (suc n) = laid s p solid n ++ laid_at s p solid (low_of s n)

-- A triangle (p, q, r) lays the directed edges p to q, q to r and r to p.
abbrev pub edges_of : Triangle → List (ℕ × ℕ)
edges_of t = (t.0, t.1) ∷ (t.1, t.2) ∷ (t.2, t.0) ∷ []

abbrev pub edges : List Triangle → List (ℕ × ℕ)
edges ts = flat_map edges_of ts

-- The other direction of an edge.
abbrev pub back : ℕ × ℕ → ℕ × ℕ
back e = (e.1, e.0)

-- The corners of the triangles, as often as they stand there.
abbrev pub corners_of : Triangle → List ℕ
corners_of t = t.0 ∷ t.1 ∷ t.2 ∷ []

abbrev pub corners : List Triangle → List ℕ
corners ts = flat_map corners_of ts

-- A triangle turned over: its last two corners exchanged.
abbrev pub turn_over : Triangle → Triangle
turn_over t = (t.0, t.2, t.1)
