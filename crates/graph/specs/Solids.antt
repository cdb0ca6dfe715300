-- The solid voxels of a cube with their connectedness. Assumes nothing.
use Rattle.std.specs.Prelude.{ℕ, List}
use Rattle.cube.specs.Cube.{Kinds, kinds}
use Rattle.cube.specs.Graph.{graph}
use Rattle.graph.specs.declared.solid.Solid.{Solid}

-- The kinds of the cube's voxels.
abbrev pub kinds_of : Solid → Kinds
kinds_of s = kinds s.mask.0

-- The edges of the graph that they leave.
abbrev pub edges_of : Solid → List (ℕ × ℕ)
edges_of s = graph s.connectedness (kinds_of s)
