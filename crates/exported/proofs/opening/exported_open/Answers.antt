use Rattle.std.proofs.Common.{inl, inr, ◌∙◌}
use Rattle.scan.specs.Blocks.{block_means}
use Rattle.exported.proofs.opening.exported_open.Goals as goal
use Rattle.exported.proofs.opening.exported_open.Goals.{in-Ok, in-Err}

pub returns : goal.returns
returns c =
    elim c.match-open_asked.branch [
      | in-Ok w ↦
          let o = w.in-Ok.field-0 in
          inl (w.result-is, record { scan = block_means o.block.sides o.block.values.items; shows = w.in-Ok.ensures.0; drawing = o.drawing; accepted = w.in-Ok.ensures.1 })
      | in-Err w ↦ inr (w.in-Err.refusal, w.result-is ∙ w.into.ensures, w.in-Err.ensures)
    ]
