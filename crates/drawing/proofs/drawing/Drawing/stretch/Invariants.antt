use Rattle.std.proofs.Common.{◌≡◌, ◌≤◌, IfSome, MatchOption}
use Rattle.grid.specs.Cubes.{cube_count}
use Rattle.surface.specs.Places.{low_of}
use Rattle.drawing.specs.Readings.{Beside}
use Rattle.drawing.specs.Stretches.{Reached}
use Rattle.drawing.proofs.drawing.Drawing.stretch.Given as goal

-- The cubes passed are drawn, the next one lies at its low voxel, and the mask of the last is at hand.
abbrev pub invariant-loop-number : goal.invariant-loop-number
invariant-loop-number g l =
    record {
      reached : Reached g.T.Tray.holds g.T.Tray.keeps (g.S.Scan.means l.scan) l.self l.number l.initial.tray l.tray l.laid;
      next : MatchOption l.next (cube_count l.self.sides ≤ l.number) (λ c. (c.sides ≡ l.self.sides) × (c.low ≡ low_of l.self.sides l.number));
      beside : IfSome l.next (λ c. Beside l.self.test (g.S.Scan.means l.scan) c.low l.left);
    }
