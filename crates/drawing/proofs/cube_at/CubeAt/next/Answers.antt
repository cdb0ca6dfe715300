use Rattle.std.proofs.Common.{◌≡◌, ◌+◌, ◌-◌, refl, arith}
use Rattle.drawing.proofs.Steps.{layer_next, next_is, none_next, row_next}
use Rattle.drawing.proofs.cube_at.CubeAt.next.Goals as goal

pub returns-then-x-clause-step : goal.returns-then-x-clause-step
returns-then-x-clause-step c =
    let at = c.args.self in
    (refl, next_is at.sides at.low _ (omega (arith, c.x.ensures.0, c.if-x.true), at.inside.1, at.inside.2) (omega arith))

pub returns-then-y-clause-step : goal.returns-then-y-clause-step
returns-then-y-clause-step c =
    let at = c.args.self in
    let x : at.sides.x - 1 ≡ at.low.x + 1 = omega (arith, c.x.ensures.0, c.if-x.false, at.inside.0) in
    (refl, next_is at.sides at.low _ (omega (arith, x), omega (arith, c.y.ensures.0, c.if-y.true), at.inside.2) (row_next (at.sides.x - 1) (at.sides.y - 1) at.low.x at.low.y at.low.z x))

pub returns-then-z-clause-step : goal.returns-then-z-clause-step
returns-then-z-clause-step c =
    let at = c.args.self in
    let x : at.sides.x - 1 ≡ at.low.x + 1 = omega (arith, c.x.ensures.0, c.if-x.false, at.inside.0) in
    let y : at.sides.y - 1 ≡ at.low.y + 1 = omega (arith, c.y.ensures.0, c.if-y.false, at.inside.1) in
    (refl, next_is at.sides at.low _ (omega (arith, x), omega (arith, y), omega (arith, c.z.ensures.0, c.if-z.true)) (layer_next (at.sides.x - 1) (at.sides.y - 1) at.low.x at.low.y at.low.z x y))

pub returns-else-z-clause-step : goal.returns-else-z-clause-step
returns-else-z-clause-step c =
    let at = c.args.self in
    let x : at.sides.x - 1 ≡ at.low.x + 1 = omega (arith, c.x.ensures.0, c.if-x.false, at.inside.0) in
    let y : at.sides.y - 1 ≡ at.low.y + 1 = omega (arith, c.y.ensures.0, c.if-y.false, at.inside.1) in
    let z : at.sides.z - 1 ≡ at.low.z + 1 = omega (arith, c.z.ensures.0, c.if-z.false, at.inside.2) in
    none_next (at.sides.x - 1) (at.sides.y - 1) (at.sides.z - 1) at.low.x at.low.y at.low.z x y z
