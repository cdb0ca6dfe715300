use Rattle.std.proofs.Common.{◌≡◌, ◌-◌}
use Rattle.graph.specs.Solids.{kinds_of}
use Rattle.cube.specs.Joined.{spread_times, reached}
use Rattle.graph.proofs.solid.Solid.reached.Given as goal

-- The steps that are left, from the marks so far, reach what seven do.
abbrev pub invariant-loop-step : goal.invariant-loop-step
invariant-loop-step l = spread_times (7 - l._step) l.self.connectedness (kinds_of l.self) l.marked ≡ reached l.self.connectedness (kinds_of l.self) l.a
