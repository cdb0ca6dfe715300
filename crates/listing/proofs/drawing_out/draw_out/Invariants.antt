use Rattle.std.proofs.Common.{◌-◌}
use Rattle.grid.specs.Cubes.{cube_count}
use Rattle.tray.specs.Buffers.{text_holds}
use Rattle.listing.specs.Steps.{Adds, Ready}
use Rattle.listing.proofs.drawing_out.draw_out.Given as goal

-- The cubes that are drawn are in the output, and the tray is empty.
abbrev pub invariant-loop-fault : goal.invariant-loop-fault
invariant-loop-fault g l = record {
  adds : Adds (g.S.Scan.means l.scan) l.fn.drawing l.drawing l.fn.output.items l.output.items;
  ready : Ready (text_holds l.tray);
}

abbrev pub decreases-loop-fault : goal.decreases-loop-fault
decreases-loop-fault g l = cube_count l.drawing.sides - l.drawing.cubes
