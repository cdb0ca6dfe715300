use Rattle.std.proofs.Common.{arith, rules}
use Rattle.cube.proofs.Masks.{ruled_count, ruled_row}
use Rattle.cube.proofs.table.pick.Goals as goal

pub invariant_of-result : goal.invariant_of-result
invariant_of-result c =
    let few = ruled_count c.args.table.now c.requires c.args.mask.0 (search rules) in
    record { few = omega arith }

pub returns : goal.returns
returns c = ruled_row c.args.table.now c.requires c.args.mask.0 (search rules)
