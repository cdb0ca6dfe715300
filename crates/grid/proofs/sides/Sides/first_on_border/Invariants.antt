use Rattle.std.proofs.Common.{◌-◌, ◌<◌, None, Some, MatchOption}
use Rattle.grid.specs.Voxels.{OnBorder, count_of, number_of}
use Rattle.grid.specs.Borders.{NoneOnBorder}
use Rattle.grid.specs.declared.voxel.Voxel.{Voxel}
use Rattle.grid.proofs.sides.Sides.first_on_border.Given as goal

-- no voxel of the border that comes before the next one has an answer
abbrev pub invariant-loop-next : goal.invariant-loop-next
invariant-loop-next g l =
    MatchOption l.next (NoneOnBorder l.self (goal.F-post g l.answer))
    (λ v. OnBorder l.self v × ((w : Voxel) → OnBorder l.self w → number_of l.self w < number_of l.self v → goal.F-post g l.answer w None))

-- the numbers that are left
abbrev pub decreases-loop-next : goal.decreases-loop-next
decreases-loop-next g l = elim l.next [ None ↦ 0 | Some v ↦ count_of l.self - number_of l.self v ]
