use Rattle.std.proofs.Common.{arith}
use Rattle.listing.proofs.InputLaws.{one_answer, read_told}
use Rattle.listing.proofs.input.read.Goals as goal

pub returns-then-bytes-gt-LIMIT-clause-once : goal.returns-then-bytes-gt-LIMIT-clause-once
returns-then-bytes-gt-LIMIT-clause-once c = one_answer c.args.bytes.now

pub returns-clause-told : goal.returns-clause-told
returns-clause-told c =
    read_told (λ x. x.header) (λ x. x.readings.items) c.args.bytes.now c.read_lines.result (omega arith) c.read_lines.ensures

pub returns-clause-once : goal.returns-clause-once
returns-clause-once c = one_answer c.args.bytes.now
