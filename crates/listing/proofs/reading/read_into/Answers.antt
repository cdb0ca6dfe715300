use Rattle.std.proofs.Common.{◌-◌, length, rules}
use Rattle.std.proofs.lemmas.Result.{err_from_is_err_and}
use Rattle.listing.proofs.Transfers.{more_taken, no_more_taken}
use Rattle.listing.proofs.reading.read_into.Goals as goal

pub returns-in_err-more-clause-bytes : goal.returns-in_err-more-clause-bytes
returns-in_err-more-clause-bytes g c =
    let p = err_from_is_err_and c.from_residual.result c.from_residual.ensures.1 in
    rw p.1 (no_more_taken _ _ _ _ c.loop-count.count c.loop-count.buffer (search rules) c.loop-count.invariant.within c.loop-count.invariant.taken c.in_err-more.ensures.bytes)

pub loop-count-preserved : goal.loop-count-preserved
loop-count-preserved g c = record {
  room = search rules;
  within = search rules;
  taken = more_taken _ _ _ c.loop-count.count (length c.loop-count.buffer - c.loop-count.count) c.in_ok-more.more c.loop-count.buffer c.read_once.new.room c.loop-count.invariant.within c.in_ok-more.ensures.bound.0 c.loop-count.invariant.taken c.in_ok-more.ensures.bytes.0;
}
