-- Whether the border of a scan is of one kind. Assumes nothing.
use Rattle.std.specs.Prelude.{◌≡◌, ◌<◌, Bool, ◌≢◌, Option, MatchOption}
use Rattle.grid.specs.Voxels.{OnBorder, number_of}
use Rattle.grid.specs.declared.voxel.Voxel.{Voxel}
use Rattle.scan.specs.Meaning.{Meaning}
use Rattle.drawing.specs.Solids.{solids_of}
use Rattle.drawing.specs.declared.letter.SolidTest.{SolidTest}

-- Every voxel on the border is of one kind.
abbrev pub BorderOf : SolidTest → Meaning → Bool → Type 0
BorderOf t m kind = (v : Voxel) → OnBorder m.sides v → solids_of t m v ≡ kind

-- What is told of a voxel: the voxel itself, if it is not of the kind.
abbrev pub Unlike : SolidTest → Meaning → Bool → Voxel → Option Voxel → Type 0
Unlike t m kind v told = MatchOption told (solids_of t m v ≡ kind) (λ u. (u ≡ v) × (solids_of t m v ≢ kind))

-- The voxel on the border with the lowest number that is not of a kind.
pub record LowestUnlike (t : SolidTest) (m : Meaning) (kind : Bool) (v : Voxel) : Type 0 where
  pub border : OnBorder m.sides v
  pub unlike : solids_of t m v ≡ kind → ⊥
  pub before : (w : Voxel) → OnBorder m.sides w → number_of m.sides w < number_of m.sides v → solids_of t m w ≡ kind
