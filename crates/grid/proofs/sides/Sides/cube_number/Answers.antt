use Rattle.std.proofs.Common.{arith}
use Rattle.grid.proofs.Numbered.{some_weaker, cube_numbered}
use Rattle.grid.proofs.sides.Sides.cube_number.Goals as goal

pub returns : goal.returns
returns c =
    some_weaker c.number.result c.number.ensures (λ none low. none (omega arith, omega arith, omega arith))
    (λ n told. cube_numbered c.args.self c.args.low n (omega arith, omega arith, omega arith) (cc))
