-- The numbering of places, over plain numbers. Assumes nothing.
use Rattle.std.specs.Prelude.{ℕ, ◌+◌, ◌*◌, ◌<◌, ◌≤◌}

-- A side of a scan has 1 to 256 voxels.
abbrev pub Side : ℕ → Type 0
Side n = (1 ≤ n) × (n ≤ 256)

-- A place lies inside a box of three sides when each coordinate is below its side.
abbrev pub Inside : (nx ny nz x y z : ℕ) → Type 0
Inside nx ny nz x y z = (x < nx) × (y < ny) × (z < nz)

-- How many places the box has.
abbrev pub place_count : (nx ny nz : ℕ) → ℕ
place_count nx ny nz = nx * (ny * nz)

-- The places are numbered with x fastest, then y, then z.
abbrev pub voxel_number : (nx ny x y z : ℕ) → ℕ
voxel_number nx ny x y z = x + nx * (y + ny * z)

-- Each place has three links that begin at it, one for each axis, numbered together.
abbrev pub link_number : (nx ny x y z axis : ℕ) → ℕ
link_number nx ny x y z axis = 3 * voxel_number nx ny x y z + axis
