use Rattle.std.proofs.Common.{Ok, Err, ap, ap₂, ◌∙◌}
use Rattle.std.proofs.lemmas.Result.{IfOk-at_ok, IfOk-weaker}
use Rattle.scan.specs.Blocks.{ShowsValues, block_means}
use Rattle.listing.specs.ClosingLines.{refusal_text}
use Rattle.listing.specs.Listings.{sides_of, voxel_told}
use Rattle.listing.proofs.Blocks.{lengths_same}
use Rattle.listing.proofs.Closings.{begins}
use Rattle.listing.proofs.output.list_scan.Goals as goal

pub list_open-requires-clause-begins : goal.list_open-requires-clause-begins
list_open-requires-clause-begins c = begins _ c.args.input.header.asked c.in-Ok.drawing c.in-Ok.ensures

pub returns-in-Ok : goal.returns-in-Ok
returns-in-Ok c =
    let block = c.unwrap-block.result in
    let shown : ShowsValues (block_means block.sides block.values.items) (sides_of c.args.input.header) c.args.input.readings.items =
    rw (lengths_same c.args.input.header c.into.result c.into.ensures) (IfOk-at_ok (λ b. ShowsValues (block_means b.sides b.values.items) c.into.result c.args.input.readings.items) c.unwrap-block.ensures c.new.ensures.shows) in
    IfOk-weaker c.list_open.result _ _
    (λ out lists. record {
      scan = block_means block.sides block.values.items;
      shows = shown;
      opening = Ok c.in-Ok.drawing;
      opened = c.in-Ok.ensures;
      lists = lists;
    })
    c.list_open.ensures

pub returns : goal.returns
returns c =
    let block = c.unwrap-block.result in
    let shown : ShowsValues (block_means block.sides block.values.items) (sides_of c.args.input.header) c.args.input.readings.items =
    rw (lengths_same c.args.input.header c.into.result c.into.ensures) (IfOk-at_ok (λ b. ShowsValues (block_means b.sides b.values.items) c.into.result c.args.input.readings.items) c.unwrap-block.ensures c.new.ensures.shows) in
    IfOk-weaker c.refused.result _ _
    (λ out with. record {
      scan = block_means block.sides block.values.items;
      shows = shown;
      opening = Err c.in-Err.refusal;
      opened = c.in-Err.ensures;
      lists = (with.0 ∙ ap₂ refusal_text c.from.ensures (c.voxel_told-told.ensures.told ∙ ap (λ s. voxel_told s c.in-Err.refusal) c.sides.ensures), with.1);
    })
    c.refused.ensures
