use Rattle.std.proofs.Common.{◌≡◌, suc, ◌+◌, ◌-◌, sym, ap, ◌∙◌, arith}
use Rattle.graph.specs.Solids.{kinds_of}
use Rattle.cube.specs.Joined.{spread_times}
use Rattle.graph.proofs.solid.Solid.reached.Goals as goal

pub loop-step-init : goal.loop-step-init
loop-step-init c = ap (spread_times 7 c.args.self.connectedness (kinds_of c.args.self)) c.seed-marked.ensures

pub loop-step-preserved : goal.loop-step-preserved
loop-step-preserved c =
    let k = kinds_of c.args.self in
    let i = c.loop-step._step in
    let less : 7 - i ≡ suc (7 - (i + 1)) = omega arith in
    ap (spread_times (7 - (i + 1)) c.args.self.connectedness k) c.spread-marked.ensures
    ∙ sym (ap (λ n. spread_times n c.args.self.connectedness k c.loop-step.marked) less)
    ∙ c.loop-step.invariant
