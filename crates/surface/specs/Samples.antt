-- Worked cases of the rules, by the link numbers of the scan. Assumes nothing.
use Rattle.std.specs.Prelude.{◌≡◌, [], ◌∷◌, ℕ}
use Rattle.grid.specs.Links.{link_number_of}
use Rattle.grid.specs.declared.axis.Axis.{Axis}
use Rattle.grid.specs.declared.axis.Axis.TheVariants.{X, Y, Z}
use Rattle.grid.specs.declared.sides.Sides.{Sides}
use Rattle.grid.specs.declared.voxel.Voxel.{Voxel}
use Rattle.cube.specs.Cube.{kinds}
use Rattle.cube.specs.declared.pair.Pair.{Pair}
use Rattle.cube.specs.declared.pair.Pair.TheVariants.{S18H6}
use Rattle.surface.specs.Places.{Solids, voxel_at, kinds_at}
use Rattle.surface.specs.Laid.{laid_at, edges}

-- The number of the link from a voxel onward along an axis.
abbrev pub onward_from : Sides → Voxel → Axis → ℕ
onward_from s v a = link_number_of s (record { lower = v; axis = a })

-- A cube of which the low voxel alone is solid lays one triangle, with its corners on the links from that voxel along x, y and
-- z, in this order; and so go its edges.
pub record LaysOne (s : Sides) (p : Pair) (solid : Solids) (low : Voxel) : Type 0 where
  pub triangle : laid_at s p solid low ≡ (onward_from s low X, onward_from s low Y, onward_from s low Z) ∷ []
  pub around : edges (laid_at s p solid low) ≡
      (onward_from s low X, onward_from s low Y) ∷ (onward_from s low Y, onward_from s low Z) ∷ (onward_from s low Z, onward_from s low X) ∷ []

-- A cube of which voxels 0 and 1 alone are solid lays two triangles under (18,6), with their corners on the links from these
-- voxels along y and z.
abbrev pub LaysTwo : Sides → Solids → Voxel → Type 0
LaysTwo s solid low =
    laid_at s S18H6 solid low ≡
    (onward_from s low Y, onward_from s low Z, onward_from s (voxel_at low 1) Y)
    ∷ (onward_from s (voxel_at low 1) Y, onward_from s low Z, onward_from s (voxel_at low 1) Z) ∷ []

pub record Samples : Type 0 where
  pub one : (s : Sides) (p : Pair) (solid : Solids) (low : Voxel) → kinds_at solid low ≡ kinds 1 → LaysOne s p solid low
  pub two : (s : Sides) (solid : Solids) (low : Voxel) → kinds_at solid low ≡ kinds 3 → LaysTwo s solid low
