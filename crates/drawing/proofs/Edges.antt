-- The first voxel of a border that is not of a kind. Assumes nothing.
use Rattle.std.proofs.Common.{◌≡◌, Bool, Option, Some, None, MatchOption}
use Rattle.grid.specs.Borders.{FirstOnBorder, NoneOnBorder}
use Rattle.grid.specs.declared.sides.Sides.{Sides}
use Rattle.grid.specs.declared.voxel.Voxel.{Voxel}
use Rattle.scan.specs.Meaning.{Meaning}
use Rattle.drawing.specs.Borders.{BorderOf, LowestUnlike, Unlike}
use Rattle.drawing.specs.declared.letter.SolidTest.{SolidTest}

-- What it tells, by the sides that a scan was asked for.
pub first_unlike : (t : SolidTest) (m : Meaning) (kind : Bool) (s : Sides) (r : Option Voxel) → s ≡ m.sides
    → MatchOption r (NoneOnBorder s (Unlike t m kind)) (FirstOnBorder s (Unlike t m kind)) → MatchOption r (BorderOf t m kind) (LowestUnlike t m kind)
first_unlike t m kind s None e none = rw e at none
first_unlike t m kind s (Some v) e answer =
    let first = rw e at answer in
    let same : v ≡ first.voxel = first.answer.0 in
    record {
      border = rw same first.border;
      unlike = rw same first.answer.1;
      before = λ w border below. first.before w border (rw same at below);
    }
