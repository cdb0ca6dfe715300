use Rattle.std.proofs.Common.{map, take}
use Rattle.surface.specs.Laid.{numbered}
use Rattle.drawing.specs.Laying.{LaidIn}
use Rattle.drawing.proofs.cube_at.CubeAt.lay.Given as goal

-- The triangles passed are in the tray.
abbrev pub invariant-loop-t : goal.invariant-loop-t
invariant-loop-t g l =
    LaidIn g.T.Tray.holds g.T.Tray.keeps l.initial.tray l.tray (map (numbered l.self.sides l.self.low) (take l.t-index l.triangles))
