use Rattle.std.proofs.Common.{arith}
use Rattle.grid.proofs.Numbered.{some_weaker, voxel_numbered}
use Rattle.grid.proofs.sides.Sides.voxel_number.Goals as goal

pub returns : goal.returns
returns c =
    some_weaker c.number.result c.number.ensures (λ none held. none (omega arith, omega arith, omega arith))
    (λ n told. voxel_numbered c.args.self c.args.v n (omega arith, omega arith, omega arith) (cc))
