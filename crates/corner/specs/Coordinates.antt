-- Coordinates in micrometres along one axis: of voxels, and of corners between two of them. Assumes nothing.
use Rattle.std.specs.Prelude.{◌≡◌, ℕ, ◌+◌, ◌*◌}
use Rattle.std.specs.Float.{Float, ◌≤ᶠ◌}
use Rattle.std.specs.Float.Ieee
use Rattle.corner.specs.Precision.{format, whole, IsRatio}

-- A voxel lies at the spacing times its index, rounded once.
abbrev pub of_voxel : (spacing index : ℕ) → Float
of_voxel spacing index = Ieee.mul format (whole format spacing) (whole format index)

-- A corner lies a fraction further than the lower end of its link: the sum is rounded, and then the product.
abbrev pub of_corner : (spacing index : ℕ) → Float → Float
of_corner spacing index fraction = Ieee.mul format (whole format spacing) (Ieee.add format (whole format index) fraction)

-- The coordinate of a voxel, which no rounding has changed.
pub record IsVoxelCoordinate (spacing index : ℕ) (x : Float) : Type 0 where
  pub rounded : x ≡ of_voxel spacing index
  pub exact : IsRatio x (spacing * index) 1

-- The coordinate of a corner, neither below the lower end of its link nor above the upper.
pub record IsCornerCoordinate (spacing index : ℕ) (fraction x : Float) : Type 0 where
  pub rounded : x ≡ of_corner spacing index fraction
  pub whole_spacing : IsRatio (whole format spacing) spacing 1
  pub whole_index : IsRatio (whole format index) index 1
  pub from : of_voxel spacing index ≤ᶠ x
  pub to : x ≤ᶠ of_voxel spacing (index + 1)
