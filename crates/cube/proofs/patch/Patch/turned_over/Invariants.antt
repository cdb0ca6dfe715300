use Rattle.std.proofs.Common.{◌≡◌, ◌++◌, map, take, drop}
use Rattle.cube.specs.Triangles.{turn_over}
use Rattle.cube.proofs.patch.Patch.turned_over.Given as goal

-- The triangles so far are turned over, and the others are as they were.
abbrev pub invariant-loop-triangle : goal.invariant-loop-triangle
invariant-loop-triangle l =
    let before = l.initial.triangle-items in
    l.triangle-items ≡ map turn_over (take l.triangle-index before) ++ drop l.triangle-index before
