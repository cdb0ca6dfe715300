use Rattle.std.proofs.Common.{◌-◌}
use Rattle.grid.specs.Cubes.{cube_count}
use Rattle.exported.proofs.Sofar.{Sofar}
use Rattle.exported.proofs.drawing_on.draw_on.Given as goal

-- All draws so far used up their budget.
abbrev pub invariant-loop-number : goal.invariant-loop-number
invariant-loop-number g l =
    Sofar (g.S.Scan.means l.scan) l.fn.drawing l.budget (g.T.Tray.holds l.fn.tray).free l.drawing (g.T.Tray.holds l.tray) l.draws

abbrev pub decreases-loop-number : goal.decreases-loop-number
decreases-loop-number g l = cube_count l.drawing.sides - l.drawing.cubes
