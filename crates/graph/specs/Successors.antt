-- The edge that leaves a corner, found on the one face where the corner is a start. Assumes nothing.
use Rattle.std.specs.Prelude.{ℕ, Bool, true, false, T, List, ◌==◌, nat_lt, slice_index_or, ◌&&◌}
use Rattle.std.specs.List.{list_all}
use Rattle.cube.specs.Cube.{Kinds, solid, link_numbers}
use Rattle.cube.specs.Graph.{graph}
use Rattle.cube.specs.Loops.{next}
use Rattle.cube.specs.Everywhere.{all_kinds, each}
use Rattle.cube.specs.declared.pair.Connectedness.{Connectedness}
use Rattle.cube.specs.declared.pair.Connectedness.TheVariants.{Six, Eighteen, TwentySix}
use Rattle.graph.specs.declared.walk.Walk.{Walk}
use Rattle.graph.specs.declared.walk.BothWays.{BothWays}

-- On a walk whose first step is a start: the link of the next end, or of the end before it.
abbrev pub next_end : Kinds → Walk → ℕ
next_end k w = elim (solid k w.c) [ true ↦ w.bc | false ↦ elim (solid k w.d) [ true ↦ w.cd | false ↦ w.da ] ]

abbrev pub end_before : Kinds → Walk → ℕ
end_before k w = elim (solid k w.d) [ true ↦ elim (solid k w.c) [ true ↦ w.bc | false ↦ w.cd ] | false ↦ w.da ]

abbrev pub ahead : Connectedness → Kinds → Walk → ℕ
ahead Six k w = end_before k w
ahead Eighteen k w = next_end k w
ahead TwentySix k w = next_end k w

abbrev nowhere : Walk
nowhere = record { a = 0; b = 0; c = 0; d = 0; bc = 0; cd = 0; da = 0 }

abbrev no_walks : BothWays
no_walks = record { up = nowhere; down = nowhere }

-- Where the edge from a link leads, by a table of walks: up along the link where its lower voxel is solid, down where its upper is.
abbrev pub by_walks : List BothWays → Connectedness → Kinds → ℕ → ℕ
by_walks walks s k l =
    let w = slice_index_or walks l no_walks in
    elim (solid k w.up.a) [
      | true ↦ elim (solid k w.up.b) [ true ↦ l | false ↦ ahead s k w.up ]
      | false ↦ elim (solid k w.up.b) [ true ↦ ahead s k w.down | false ↦ l ]
    ]

-- The table leads as the graph does, at every link of a cube, for each connectedness of solid.
abbrev pub leads : List BothWays → Connectedness → Kinds → Bool
leads walks s k =
    let es = graph s k in
    list_all (λ l. by_walks walks s k l == next es l && nat_lt (next es l) 12) link_numbers

abbrev pub Leads : List BothWays → Type 0
Leads walks = T (all_kinds λ k. each λ s. leads walks s k)
