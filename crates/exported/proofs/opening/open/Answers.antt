use Rattle.std.proofs.Common.{rules, subst}
use Rattle.std.proofs.lemmas.Result.{err_from_is_err_and}
use Rattle.scan.specs.Blocks.{block_means}
use Rattle.drawing.specs.Opening.{Refused}
use Rattle.exported.specs.Askings.{OpenRefused}
use Rattle.exported.proofs.opening.open.Goals as goal

pub returns-in_err-drawing : goal.returns-in_err-drawing
returns-in_err-drawing c =
    let a = c.args.asking.now in
    let e = c.in_err-drawing.field-0.0 in
    let m = block_means c.in_ok-block.block.sides c.in_ok-block.block.values.items in
    let exit = err_from_is_err_and c.from_residual-in_err-drawing.result c.from_residual-in_err-drawing.ensures.1 in
    let refused : OpenRefused a c.args.readings.now e = record { scan = m; shows = search rules; refused = subst (λ asked. Refused m asked e) c.opening.ensures c.in_err-drawing.ensures } in
    rw (exit.1, exit.2) refused
