use Rattle.tray.proofs.TextLoops.{front_more, front_fault, front_all}
use Rattle.tray.proofs.TextReads.{counted_back}
use Rattle.tray.proofs.text.count.Goals as goal

pub returns-then-is_none : goal.returns-then-is_none
returns-then-is_none c =
    let step = c.in-Some.ensures.steps in
    let fault = front_fault _ _ _ _ _ _ c.loop-n.invariant step.0.1.0 _ c.read_line.ensures c.if-is_none.ensures step.0.1.1 step.0.1.2 in
    rw step.1 (record { told = fault; back = counted_back c.args.text.now _ fault })

pub loop-n-preserved : goal.loop-n-preserved
loop-n-preserved c =
    let step = c.in-Some.ensures.steps in
    rw step.2 (front_more _ _ _ _ _ _ c.loop-n.invariant step.0.1.0 _ _ c.read_line.ensures c.if-is_none.ensures step.0.0)

pub returns : goal.returns
returns c =
    let whole = front_all _ _ _ _ c.loop-n.invariant c.in-None.ensures.steps.0.1.0 in
    record { told = whole; back = counted_back c.args.text.now _ whole }
