-- The mask of a cube of a scan, or the first of its voxels that lacks a reading. Assumes nothing.
use Rattle.std.specs.Prelude.{◌≡◌, ℕ, ◌+◌, ◌<◌, ◌%◌, Bool, true, is_ok, Ok, Err, Result, MatchResult, IfSome, Option}
use Rattle.grid.specs.declared.voxel.Voxel.{Voxel}
use Rattle.cube.specs.Cube.{kinds, solid}
use Rattle.cube.specs.declared.mask.Mask.{Mask}
use Rattle.scan.specs.Meaning.{Meaning}
use Rattle.scan.specs.declared.border.Lacking.{Lacking}
use Rattle.surface.specs.Places.{voxel_at, kinds_at}
use Rattle.drawing.specs.Solids.{solids_of}
use Rattle.drawing.specs.declared.letter.SolidTest.{SolidTest}

-- The first n voxels of the cube at a low voxel have a reading.
abbrev pub ReadBefore : Meaning → Voxel → ℕ → Type 0
ReadBefore m low n = (j : ℕ) → j < n → is_ok (m.at (voxel_at low j)) ≡ true

-- The first of a cube's voxels that lacks a reading, and its fault.
pub record FirstLacking (m : Meaning) (low : Voxel) (l : Lacking) : Type 0 where
  pub index : ℕ
  pub cube : index < 8
  pub place : l.voxel ≡ voxel_at low index
  pub lacks : m.at l.voxel ≡ Err l.fault
  pub before : ReadBefore m low index

-- A cube whose voxels all have a reading is told by its mask, any other by the first voxel that lacks one.
abbrev pub CubeRead : SolidTest → Meaning → Voxel → Result Mask Lacking → Type 0
CubeRead t m low (Ok mask) = ReadBefore m low 8 × (kinds mask.0 ≡ kinds_at (solids_of t m) low)
CubeRead t m low (Err l) = FirstLacking m low l

-- A voxel that has a reading is told by its kind, any other by its fault.
abbrev pub VoxelRead : SolidTest → Meaning → Voxel → Result Bool Lacking → Type 0
VoxelRead t m v a =
    MatchResult a (λ kind. (is_ok (m.at v) ≡ true) × (kind ≡ solids_of t m v))
    (λ l. (l.voxel ≡ v) × (m.at l.voxel ≡ Err l.fault))

-- The voxels of even number that the cube at a low voxel has from the one before it along x have readings, and the mask
-- of that one tells their kinds.
abbrev pub SideRead : SolidTest → Meaning → Voxel → Mask → Type 0
SideRead t m low mask =
    (i : ℕ) → i < 8 → i % 2 ≡ 0 → (is_ok (m.at (voxel_at low i)) ≡ true) × (solid (kinds mask.0) (i + 1) ≡ solids_of t m (voxel_at low i))

-- So it is where there is a cube before it, and its mask is at hand.
abbrev pub Beside : SolidTest → Meaning → Voxel → Option Mask → Type 0
Beside t m low left = 0 < low.x → IfSome left (SideRead t m low)
