-- Cubes of eight voxels and their numbers, by the sides of a scan. Assumes nothing.
use Rattle.std.specs.Prelude.{◌≡◌, ℕ, ◌+◌, ◌-◌, ◌<◌}
use Rattle.grid.specs.Numbers.{Inside, place_count, voxel_number}
use Rattle.grid.specs.declared.sides.Sides.{Sides}
use Rattle.grid.specs.declared.voxel.Voxel.{Voxel}

-- A cube lies at its low voxel: the scan also holds the voxel one further along all three axes.
abbrev pub Low : Sides → Voxel → Type 0
Low s v = Inside s.x s.y s.z (v.x + 1) (v.y + 1) (v.z + 1)

-- How many cubes a scan has; none where a side is 1.
abbrev pub cube_count : Sides → ℕ
cube_count s = place_count (s.x - 1) (s.y - 1) (s.z - 1)

-- The number of the cube at a low voxel, x fastest.
abbrev pub cube_number : Sides → Voxel → ℕ
cube_number s v = voxel_number (s.x - 1) (s.y - 1) v.x v.y v.z

-- A cube of the scan has its own number: it is in range, and no other cube of the scan has it.
pub record CubeNumbered (s : Sides) (v : Voxel) (n : ℕ) : Type 0 where
  pub low : Low s v
  pub number : n ≡ cube_number s v
  pub below : n < cube_count s
  pub bound : n < 16777216
  pub only : (w : Voxel) → Low s w → cube_number s w ≡ n → w ≡ v
