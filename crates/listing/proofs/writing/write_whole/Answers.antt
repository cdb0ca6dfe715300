use Rattle.listing.proofs.Transfers.{more_written}
use Rattle.listing.proofs.writing.write_whole.Goals as goal

pub loop-rest-preserved : goal.loop-rest-preserved
loop-rest-preserved g c =
    let (front, parts, written) = c.loop-rest.invariant in
    more_written _ _ _ _ front c.loop-rest.rest.now c.in_ok-count.count parts written c.in_ok-count.ensures.bytes
