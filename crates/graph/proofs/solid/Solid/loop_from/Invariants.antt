use Rattle.std.proofs.Common.{◌≡◌, ◌-◌, ◌<◌, ◌++◌, vec_items}
use Rattle.cube.specs.Loops.{loop_from, trail}
use Rattle.graph.specs.Solids.{edges_of}
use Rattle.graph.proofs.solid.Solid.loop_from.Given as goal

-- The corners so far, and those that are still to follow, are the loop.
abbrev pub invariant-loop-step : goal.invariant-loop-step
invariant-loop-step l =
    let es = edges_of l.self in
    (l.at < 12) × (vec_items l.corners ++ trail (12 - l._step) es l.link l.at ≡ loop_from es l.link)
