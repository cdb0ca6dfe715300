use Rattle.std.proofs.Common.{◌∙◌, sym, subst}
use Rattle.drawing.specs.Laying.{Layable}
use Rattle.drawing.proofs.drawing.Drawing.lay_mask.Goals as goal

pub lay-requires-clause-layable : goal.lay-requires-clause-layable
lay-requires-clause-layable g c =
    subst (Layable c.args.at.sides c.args.at.low) (sym (c.triangles-cube.ensures.value ∙ c.triangles-patch.ensures.value)) c.requires
