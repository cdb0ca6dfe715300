-- Answers at the voxels of a border, and the first of them. Assumes nothing.
use Rattle.std.specs.Prelude.{◌<◌, ◌≤◌, Option, Some, None}
use Rattle.grid.specs.Voxels.{OnBorder, number_of}
use Rattle.grid.specs.declared.sides.Sides.{Sides}
use Rattle.grid.specs.declared.voxel.Voxel.{Voxel}

-- At each voxel of the border there is no answer.
abbrev pub NoneOnBorder : {T : Type 0} → Sides → (Voxel → Option T → Type 0) → Type 0
NoneOnBorder s answers = (v : Voxel) → OnBorder s v → answers v None

-- The answer at the voxel of the border with the lowest number that has one.
pub record FirstOnBorder {T : Type 0} (s : Sides) (answers : Voxel → Option T → Type 0) (found : T) : Type 0 where
  pub voxel : Voxel
  pub border : OnBorder s voxel
  pub answer : answers voxel (Some found)
  pub before : (w : Voxel) → OnBorder s w → number_of s w < number_of s voxel → answers w None

-- No voxel of the border comes after this one by number.
abbrev pub LastOnBorder : Sides → Voxel → Type 0
LastOnBorder s v = (w : Voxel) → OnBorder s w → number_of s w ≤ number_of s v

-- A voxel of the border comes after another, and none of the border lies between the two by number.
pub record NextOnBorder (s : Sides) (v next : Voxel) : Type 0 where
  pub border : OnBorder s next
  pub after : number_of s v < number_of s next
  pub between : (w : Voxel) → OnBorder s w → number_of s w < number_of s next → number_of s w ≤ number_of s v
