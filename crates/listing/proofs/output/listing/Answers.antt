use Rattle.listing.proofs.Blocks.{fills}
use Rattle.listing.proofs.output.listing.Goals as goal

pub list_scan-requires : goal.list_scan-requires
list_scan-requires c = fills c.args.input.now c.in_ok-input.input.header c.in_ok-input.input.readings.items c.in_ok-input.ensures.told.1
