use Rattle.std.proofs.Common.{arith}
use Rattle.grid.proofs.Numbered.{some_weaker, voxel_numbered}
use Rattle.grid.proofs.sides.Sides.voxel_at.Goals as goal

pub returns : goal.returns
returns c =
    some_weaker c.at.result c.at.ensures (λ none. grind arith)
    (λ v told. voxel_numbered c.args.self v c.args.number (omega arith, omega arith, omega arith) (cc))
