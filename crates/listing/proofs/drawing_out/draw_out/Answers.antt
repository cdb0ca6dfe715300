use Rattle.std.proofs.Common.{Some, None, subst}
use Rattle.drawing.specs.declared.progress.Ending.{Ending}
use Rattle.listing.specs.Steps.{Stands}
use Rattle.listing.proofs.Adding.{adds_more, drawn_out}
use Rattle.listing.proofs.drawing_out.draw_out.Goals as goal

pub returns-in-Done : goal.returns-in-Done
returns-in-Done g c =
    let m = g.S.Scan.means c.args.scan.now in
    let d = c.fill.new.drawing in
    let filled = c.in_ok-fill.ensures.filled in
    drawn_out m c.args.drawing.now c.loop-fault.drawing d c.args.output.now.items c.loop-fault.output.items c.fill.new.output.items _ None c.loop-fault.invariant.adds filled
    (subst (λ (e : Ending). Stands m d.sides d.cubes e) c.in-Done.is filled.stands)

pub returns-in-Lacking : goal.returns-in-Lacking
returns-in-Lacking g c =
    let m = g.S.Scan.means c.args.scan.now in
    let d = c.fill.new.drawing in
    let filled = c.in_ok-fill.ensures.filled in
    drawn_out m c.args.drawing.now c.loop-fault.drawing d c.args.output.now.items c.loop-fault.output.items c.fill.new.output.items _ (Some c.in-Lacking.fault) c.loop-fault.invariant.adds filled
    (subst (λ (e : Ending). Stands m d.sides d.cubes e) c.in-Lacking.is filled.stands)

pub loop-fault-preserved : goal.loop-fault-preserved
loop-fault-preserved g c = record {
  adds = adds_more (g.S.Scan.means c.args.scan.now) c.args.drawing.now c.loop-fault.drawing c.fill.new.drawing c.args.output.now.items c.loop-fault.output.items c.fill.new.output.items c.loop-fault.invariant.adds c.in_ok-fill.ensures.filled.adds;
  ready = c.in_ok-fill.ensures.ready;
}
