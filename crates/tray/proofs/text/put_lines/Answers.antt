use Rattle.tray.proofs.TextPuts.{begun_line, begun_more, begun_all}
use Rattle.tray.proofs.text.put_lines.Goals as goal

pub unwrap-requires : goal.unwrap-requires
unwrap-requires g c =
    let step = c.in-Some.ensures.steps in
    begun_line g.T.Tray.lawful _ _ _ _ _ _ _ c.loop-line.invariant step.1.0 step.1.1 _ c.read_line.ensures

pub loop-line-preserved : goal.loop-line-preserved
loop-line-preserved g c =
    let step = c.in-Some.ensures.steps in
    begun_more g.T.Tray.lawful _ _ _ _ _ _ _ c.loop-line.invariant step.1.0 step.1.1 _ _ _ _ _ c.read_line.ensures c.unwrap.ensures step.0 c.requires.room c.put.ensures.put c.put.ensures.rest

pub returns-clause-added : goal.returns-clause-added
returns-clause-added g c = (begun_all g.T.Tray.lawful _ _ _ _ _ c.loop-line.invariant c.in-None.ensures.steps.1.0).list
