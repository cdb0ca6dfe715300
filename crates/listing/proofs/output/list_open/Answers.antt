use Rattle.std.proofs.Common.{Option, sym, subst}
use Rattle.grid.specs.declared.sides.Sides.{Sides}
use Rattle.grid.specs.Voxels.{Holds}
use Rattle.scan.specs.declared.fault.Fault.{Fault}
use Rattle.listing.specs.Steps.{DrawnOut, Stops}
use Rattle.listing.proofs.Closings.{fault_inside, lists_broken, lists_end}
use Rattle.listing.proofs.output.list_open.Goals as goal

pub push_lacking-requires : goal.push_lacking-requires
push_lacking-requires g c =
    let m = g.S.Scan.means c.args.scan.now in
    let d = c.draw_out.new.drawing in
    let stops = subst (λ (o : Option Fault). Stops m d.sides d.cubes o) c.in-Some.is c.in_ok-fault.ensures.stops in
    subst (λ (s : Sides). Holds s c.in-Some.fault.at) (sym c.sides.ensures) (fault_inside m d.sides d.cubes c.in-Some.fault c.requires.own stops.0 stops.1)

pub returns-in-Some : goal.returns-in-Some
returns-in-Some g c =
    let m = g.S.Scan.means c.args.scan.now in
    let o = c.args.drawing in
    let d = c.draw_out.new.drawing in
    let drawn = subst (λ (f : Option Fault). DrawnOut m o d f c.new-bytes.result.items c.draw_out.new.output.items) c.in-Some.is c.in_ok-fault.ensures in
    lists_broken m o d c.new-bytes.result.items c.draw_out.new.output.items _ c.new-bytes.ensures.items c.requires.begins c.in-Some.fault c.sides.result c.requires.own drawn c.sides.ensures c.in_ok-push_lacking-in-Some.ensures

pub returns : goal.returns
returns g c =
    let m = g.S.Scan.means c.args.scan.now in
    let o = c.args.drawing in
    let d = c.draw_out.new.drawing in
    let drawn = subst (λ (f : Option Fault). DrawnOut m o d f c.new-bytes.result.items c.draw_out.new.output.items) c.in-None.is c.in_ok-fault.ensures in
    lists_end m o d c.new-bytes.result.items c.draw_out.new.output.items _ c.new-bytes.ensures.items c.requires.begins drawn c.in_ok-push_end-in-None.ensures
