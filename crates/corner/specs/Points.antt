-- Places on links, and the points there. Assumes nothing.
use Rattle.std.specs.Prelude.{ℕ}
use Rattle.std.specs.Float.{Float, ◌≤ᶠ◌}
use Rattle.grid.specs.declared.axis.Axis.{Axis}
use Rattle.grid.specs.declared.axis.Axis.TheVariants as axis
use Rattle.grid.specs.declared.voxel.Voxel.{Voxel}
use Rattle.scan.specs.declared.spacing.Spacing.{Spacing}
use Rattle.corner.specs.Coordinates.{of_voxel, IsVoxelCoordinate, IsCornerCoordinate}
use Rattle.corner.specs.declared.corner.Place.{Place}
use Rattle.corner.specs.declared.corner.Place.TheVariants.{X, Y, Z}
use Rattle.corner.specs.declared.point.Point.{Point}

-- A place is an axis and a fraction.
abbrev pub axis_of : Place → Axis
axis_of (X fraction) = axis.X
axis_of (Y fraction) = axis.Y
axis_of (Z fraction) = axis.Z

abbrev pub fraction_of : Place → Float
fraction_of (X fraction) = fraction
fraction_of (Y fraction) = fraction
fraction_of (Z fraction) = fraction

-- The point at a place on the link that begins at a voxel: along the link's axis the corner's coordinate, along the other
-- two the voxel's.
abbrev pub IsPoint : Spacing → Voxel → Place → Point → Type 0
IsPoint s v (X fraction) p =
    IsCornerCoordinate s.x v.x fraction p.x × IsVoxelCoordinate s.y v.y p.y × IsVoxelCoordinate s.z v.z p.z
IsPoint s v (Y fraction) p =
    IsVoxelCoordinate s.x v.x p.x × IsCornerCoordinate s.y v.y fraction p.y × IsVoxelCoordinate s.z v.z p.z
IsPoint s v (Z fraction) p =
    IsVoxelCoordinate s.x v.x p.x × IsVoxelCoordinate s.y v.y p.y × IsCornerCoordinate s.z v.z fraction p.z

-- A coordinate is neither below that of one voxel nor above that of another.
abbrev pub Spanned : (spacing low high : ℕ) → Float → Type 0
Spanned spacing low high x = (of_voxel spacing low ≤ᶠ x) × (x ≤ᶠ of_voxel spacing high)

-- A point lies between two voxels along every axis, both allowed to touch.
pub record WithinEnds (s : Spacing) (low high : Voxel) (p : Point) : Type 0 where
  pub x : Spanned s.x low.x high.x p.x
  pub y : Spanned s.y low.y high.y p.y
  pub z : Spanned s.z low.z high.z p.z
