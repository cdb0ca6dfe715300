-- Voxels and their numbers, by the sides of a scan. Assumes nothing.
use Rattle.std.specs.Prelude.{◌≡◌, ℕ, ◌+◌, ◌<◌, ◌⊎◌}
use Rattle.grid.specs.Numbers.{Inside, place_count, voxel_number}
use Rattle.grid.specs.declared.sides.Sides.{Sides}
use Rattle.grid.specs.declared.voxel.Voxel.{Voxel}

-- A scan holds a voxel when each coordinate is below its side.
abbrev pub Holds : Sides → Voxel → Type 0
Holds s v = Inside s.x s.y s.z v.x v.y v.z

-- How many voxels a scan holds.
abbrev pub count_of : Sides → ℕ
count_of s = place_count s.x s.y s.z

-- The number of a voxel, x fastest.
abbrev pub number_of : Sides → Voxel → ℕ
number_of s v = voxel_number s.x s.y v.x v.y v.z

-- A voxel of the scan has its own number: it is in range, and no other voxel of the scan has it.
pub record VoxelNumbered (s : Sides) (v : Voxel) (n : ℕ) : Type 0 where
  pub holds : Holds s v
  pub number : n ≡ number_of s v
  pub below : n < count_of s
  pub bound : n < 16777216
  pub only : (w : Voxel) → Holds s w → number_of s w ≡ n → w ≡ v

-- A voxel of the scan is on its border when a coordinate is 0 or the last along its axis.
abbrev pub OnBorder : Sides → Voxel → Type 0
OnBorder s v =
    Holds s v
    × ((v.x ≡ 0) ⊎ (v.x + 1 ≡ s.x) ⊎ (v.y ≡ 0) ⊎ (v.y + 1 ≡ s.y) ⊎ (v.z ≡ 0) ⊎ (v.z + 1 ≡ s.z))
