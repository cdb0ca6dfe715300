use Rattle.std.proofs.Common.{arith}
use Rattle.grid.proofs.Numbered.{some_weaker, cube_numbered}
use Rattle.grid.proofs.sides.Sides.cube_at.Goals as goal

pub returns : goal.returns
returns c =
    some_weaker c.at.result c.at.ensures (λ none. grind arith)
    (λ v told. cube_numbered c.args.self v c.args.number (omega arith, omega arith, omega arith) (cc))
