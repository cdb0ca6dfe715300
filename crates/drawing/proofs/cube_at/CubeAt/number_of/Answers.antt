use Rattle.std.proofs.Common.{sym, ap, subst}
use Rattle.grid.specs.Voxels.{Holds}
use Rattle.surface.proofs.Numbered.{holds_at}
use Rattle.std.proofs.lemmas.Bool.{some_since}
use Rattle.std.proofs.lemmas.Option.{MatchOption-at_some}
use Rattle.drawing.proofs.LinkNumbers.{number_is}
use Rattle.drawing.proofs.cube_at.CubeAt.number_of.Goals as goal

pub unwrap-number-requires : goal.unwrap-number-requires
unwrap-number-requires c =
    let at = c.args.self in
    some_since _ _ _ c.voxel_number.ensures
    (λ outside. outside (subst (Holds at.sides) (sym c.voxel.ensures) (holds_at at.sides at.low at.inside c.unwrap-lower.result.0)))

pub returns : goal.returns
returns c =
    let at = c.args.self in
    let numbered = MatchOption-at_some _ _ _ c.unwrap-number.ensures c.voxel_number.ensures in
    let ends = MatchOption-at_some _ _ _ c.unwrap-lower.ensures c.ends.ensures.value in
    number_is at.sides at.low c.voxel.result c.args.link c.unwrap-lower.result.0 c.unwrap-number.result _ c.requires c.voxel.ensures (ap (λ e. e.0) ends) numbered.number c.from.ensures
