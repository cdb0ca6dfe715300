use Rattle.std.proofs.Common.{refl, sym, ap, ◌∙◌}
use Rattle.surface.specs.Places.{low_of}
use Rattle.surface.proofs.Numbered.{low_back}
use Rattle.drawing.proofs.cube_at.CubeAt.new.Goals as goal

pub returns-clause-at : goal.returns-clause-at
returns-clause-at c =
    let s = c.args.sides in
    let numbered = c.in_ok-low.ensures in
    (refl, sym (low_back s c.in_ok-low.low numbered.low) ∙ ap (low_of s) (sym numbered.number))
