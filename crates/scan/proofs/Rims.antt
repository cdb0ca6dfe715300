-- The first voxel of a border that lacks a reading. Assumes nothing.
use Rattle.std.proofs.Common.{◌≡◌, Option, Some, None, MatchOption}
use Rattle.grid.specs.Borders.{FirstOnBorder, NoneOnBorder}
use Rattle.grid.specs.declared.sides.Sides.{Sides}
use Rattle.scan.specs.Borders.{BorderRead, Lacks, LowestLacking}
use Rattle.scan.specs.Meaning.{Meaning}
use Rattle.scan.specs.declared.border.Lacking.{Lacking}

-- what the first voxel of the border that lacks a reading tells, by the sides that a scan was asked for
pub lowest_told : (m : Meaning) (s : Sides) (r : Option Lacking) → s ≡ m.sides
    → MatchOption r (NoneOnBorder s (Lacks m)) (FirstOnBorder s (Lacks m)) → MatchOption r (BorderRead m) (λ l. LowestLacking m l.voxel l.fault)
lowest_told m s None e none = rw e at none
lowest_told m s (Some l) e answer =
    let first = rw e at answer in
    let same : l.voxel ≡ first.voxel = first.answer.0 in record {
      border = rw same first.border;
      lacks = rw same first.answer.1;
      before = λ w border below. first.before w border (rw same at below);
    }
