use Rattle.std.proofs.Common.{◌+◌, ◌-◌, ◌++◌, vec_items, ap, ◌∙◌}
use Rattle.cube.specs.Loops.{loop_from, trail}
use Rattle.graph.specs.Solids.{edges_of}
use Rattle.graph.proofs.Trails.{trail_more, trail_last}
use Rattle.graph.proofs.solid.Solid.loop_from.Goals as goal

pub returns-then-at-link : goal.returns-then-at-link
returns-then-at-link c =
    let es = edges_of c.args.self in
    c.in_ok-push.ensures.items
    ∙ trail_last es c.args.link c.loop-step._step c.loop-step.at c.successor-at.result
    (vec_items c.loop-step.corners) (loop_from es c.args.link) c.loop-step-test.true
    c.successor-at.ensures.0 c.if-at-link.true c.loop-step.invariant.1

pub loop-step-preserved : goal.loop-step-preserved
loop-step-preserved c =
    let es = edges_of c.args.self in (
      c.successor-at.ensures.1,
      ap (λ ys. ys ++ trail (12 - (c.loop-step._step + 1)) es c.args.link c.successor-at.result) c.in_ok-push.ensures.items
          ∙ trail_more es c.args.link c.loop-step._step c.loop-step.at c.successor-at.result
          (vec_items c.loop-step.corners) (loop_from es c.args.link) c.loop-step-test.true
          c.successor-at.ensures.0 c.if-at-link.false c.loop-step.invariant.1,
    )
