use Rattle.std.proofs.lemmas.Option.{MatchOption-at_some}
use Rattle.grid.proofs.Rims.{none_yet}
use Rattle.grid.proofs.sides.Sides.first_on_border.Goals as goal

pub loop-next-preserved : goal.loop-next-preserved
loop-next-preserved g c =
    none_yet (goal.F-post g c.args.answer) c.args.self c.in-Some.voxel c.next_on_border-next.result c.next_on_border-next.ensures
    (MatchOption-at_some _ _ _ c.in-Some.is c.loop-next.invariant) c.in_default-answer.ensures
