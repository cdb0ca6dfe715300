use Rattle.session.proofs.Stepping.{alone, cleared}
use Rattle.session.proofs.step.step.Goals as goal

pub returns-in-Open-clause-steps : goal.returns-in-Open-clause-steps
returns-in-Open-clause-steps g c =
    alone (g.S.Scan.means c.args.scan.now) _ c.args.state c.open.result.0 _ c.args.call _ c.open.result.1 c.in-Open.is c.open.ensures

pub returns-in-Close-clause-steps : goal.returns-in-Close-clause-steps
returns-in-Close-clause-steps g c =
    let m = g.S.Scan.means c.args.scan.now in
    alone m _ c.args.state c.close.result.0 _ c.args.call _ c.close.result.1 c.in-Close.is (c.close.ensures m)

pub returns-in-Empty-clause-steps : goal.returns-in-Empty-clause-steps
returns-in-Empty-clause-steps g c =
    cleared (g.S.Scan.means c.args.scan.now) _ c.args.state c.empty.result.0 _ _ c.args.call c.in-Empty.tray c.empty.result.1 c.in-Empty.is c.empty.ensures.clears
