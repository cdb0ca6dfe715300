-- All laws of the triangles of the first n cubes together. Assumes nothing.
use Rattle.std.specs.Prelude.{◌≡◌, ◌<◌, map, ℕ}
use Rattle.grid.specs.declared.sides.Sides.{Sides}
use Rattle.grid.specs.declared.voxel.Voxel.{Voxel}
use Rattle.cube.specs.Laws.{Outward}
use Rattle.cube.specs.Lists.{Distinct, In}
use Rattle.cube.specs.Pairs.{swap}
use Rattle.cube.specs.Triangles.{triangles}
use Rattle.cube.specs.declared.pair.Pair.{Pair}
use Rattle.cube.specs.declared.triangle.CubeTriangle.{CubeTriangle}
use Rattle.surface.specs.Places.{Solids, kinds_at, low_of}
use Rattle.surface.specs.Laid.{laid, edges, turn_over}
use Rattle.surface.specs.Joined.{hollow_of}
use Rattle.surface.specs.Laws.{Always, RuleTrue, Cornered, Joining}
use Rattle.surface.specs.Fronts.{OneBorder, Fronted}

-- Each triangle of the cube at a low voxel turns its front to hollow.
abbrev pub FrontsOut : Pair → Solids → Voxel → Type 0
FrontsOut p solid low = (t : CubeTriangle) → In t (triangles p (kinds_at solid low)) → Outward (kinds_at solid low) t

-- What holds of a surface of which the first n cubes are drawn.
pub record Whole (s : Sides) (p : Pair) (solid : Solids) (n : ℕ) : Type 0 where
  pub rule : RuleTrue s p solid n
  pub once : Distinct (edges (laid s p solid n))
  pub front : OneBorder s solid → Fronted s p solid n
  pub ends : Joining s p solid n
  pub corners : Cornered s p solid n
  pub mirror : laid s (swap p) (hollow_of solid) n ≡ map turn_over (laid s p solid n)
  pub fronts : (c : ℕ) → c < n → FrontsOut p solid (low_of s c)

abbrev pub AllWhole : Type 0
AllWhole = Always Whole
