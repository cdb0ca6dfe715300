use Rattle.std.proofs.Common.{◌∷◌, [], ◌++◌, sym, ◌∙◌, arith}
use Rattle.listing.proofs.RowSteps.{gains_more, row_more}
use Rattle.listing.proofs.rows.push_fields.Goals as goal

pub loop-preserved : goal.loop-preserved
loop-preserved c =
    let (row, gained, left) = c.loop.invariant in
    let reading = c.in_ok-number.field-0 in (
      row ++ (reading ∷ []),
      gains_more _ _ _ row (reading ∷ []) gained c.push.ensures,
      sym (row_more row c.args.nx c.loop.counter reading _ _ (omega arith) c.in_ok-number.ensures) ∙ left,
    )
