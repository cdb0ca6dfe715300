-- The border of a scan, and whether it can be read whole. Assumes nothing.
use Rattle.std.specs.Prelude.{◌≡◌, ◌<◌, true, is_ok, Err, Option, MatchOption}
use Rattle.grid.specs.Voxels.{OnBorder, number_of}
use Rattle.grid.specs.declared.voxel.Voxel.{Voxel}
use Rattle.scan.specs.Meaning.{Meaning}
use Rattle.scan.specs.declared.border.Lacking.{Lacking}
use Rattle.scan.specs.declared.fault.Fault.{Fault}

-- Each voxel on the border has a reading.
abbrev pub BorderRead : Meaning → Type 0
BorderRead m = (v : Voxel) → OnBorder m.sides v → is_ok (m.at v) ≡ true

-- A voxel has a reading, or what is told of it is the fault that it answers with.
abbrev pub Lacks : Meaning → Voxel → Option Lacking → Type 0
Lacks m v told = MatchOption told (is_ok (m.at v) ≡ true) (λ l. (l.voxel ≡ v) × (m.at v ≡ Err l.fault))

-- The voxel on the border with the lowest number that lacks a reading, and its fault.
pub record LowestLacking (m : Meaning) (v : Voxel) (f : Fault) : Type 0 where
  pub border : OnBorder m.sides v
  pub lacks : m.at v ≡ Err f
  pub before : (w : Voxel) → OnBorder m.sides w → number_of m.sides w < number_of m.sides v → is_ok (m.at w) ≡ true
