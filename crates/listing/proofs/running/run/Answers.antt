use Rattle.std.proofs.Common.{◌≡◌, length, take, rules, arith, length-take-le}
use Rattle.listing.proofs.Streams.{ran}
use Rattle.listing.proofs.running.run.Goals as goal

pub returns-in-Ok-clause-bytes : goal.returns-in-Ok-clause-bytes
returns-in-Ok-clause-bytes g c =
    let buffer = c.read_into.new.buffer in
    let count = c.in-Ok.count in
    let (within, taken, end) = c.in-Ok.ensures.bytes in
    let long : length buffer ≡ 32769 = search rules in
    let size = length-take-le count buffer within in
    ran _ _ _ _ (take count buffer) c.answer.result taken (omega (arith, size, within, long)) (λ short. end (omega (arith, size, long))) c.answer.ensures.bytes
