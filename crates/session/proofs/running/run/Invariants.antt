use Rattle.std.proofs.Common.{◌≡◌, List, map, take}
use Rattle.tray.specs.declared.triangle.Triangle.{Triangle}
use Rattle.session.specs.Keeping.{RunsOn, start_on}
use Rattle.session.specs.Ways.{calls_of}
use Rattle.session.proofs.running.run.Given as goal

-- The calls passed are made, and none is changed.
abbrev pub invariant-loop-entry : goal.invariant-loop-entry
invariant-loop-entry g l =
    let m = g.S.Scan.means l.scan in
    let others = map g.O.Scan.means l.others in
    (calls_of l.entries ≡ calls_of l.initial.entries)
    × ((ts : List Triangle)
    × RunsOn m others g.T.Tray.holds g.T.Tray.keeps (start_on l.initial.trays) (take l.entry-index l.entries)
    (record { state = l.state; trays = l.trays; laid = ts }))
