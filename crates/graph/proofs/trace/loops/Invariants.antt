use Rattle.std.proofs.Common.{◌≡◌, ◌++◌, map, vec_items}
use Rattle.cube.specs.Cube.{kinds}
use Rattle.cube.specs.Graph.{graph}
use Rattle.cube.specs.Loops.{loops_of}
use Rattle.graph.proofs.Found.{loops_past}
use Rattle.graph.proofs.trace.loops.Given as goal

-- The loops found so far, and those that begin at this link or past it, are all.
abbrev pub invariant-loop-link : goal.invariant-loop-link
invariant-loop-link l =
    let k = kinds l.mask.0 in
    let es = graph l.solid.connectedness k in
    map vec_items (vec_items l.found) ++ loops_past k es l.link ≡ loops_of k es
