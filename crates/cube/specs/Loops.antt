-- The loops that the edges of a cube's graph form. Assumes nothing.
use Rattle.std.specs.Prelude.{ℕ, zero, suc, Bool, true, false, List, [], ◌∷◌, map, ◌==◌, nat_le, filter}
use Rattle.std.specs.List.{list_all}
use Rattle.cube.specs.Cube.{Kinds, link_numbers, crossing}
use Rattle.cube.specs.Graph.{graph}
use Rattle.cube.specs.declared.pair.Connectedness.{Connectedness}

-- Where the edge from p leads; p itself where no edge leaves it.
abbrev pub next : List (ℕ × ℕ) → ℕ → ℕ
next [] p = p
next (e ∷ es) p = elim (e.0 == p) [ true ↦ e.1 | false ↦ next es p ]

-- The corners from p on along the edges, until the next is the one where the walk began; at most n of them.
abbrev pub trail : ℕ → List (ℕ × ℕ) → ℕ → ℕ → List ℕ
trail zero es from p = []
trail (suc n) es from p =
    let q = next es p in
    p ∷ (elim (q == from) [ true ↦ [] | false ↦ trail n es from q ])

-- The loop through p, listed from p along its direction. A cube has twelve links, so no loop is longer.
abbrev pub loop_from : List (ℕ × ℕ) → ℕ → List ℕ
loop_from es p = trail 12 es p p

-- The links that carry a corner, in the order of their numbers.
abbrev pub corners : Kinds → List ℕ
corners k = filter (crossing k) link_numbers

-- A corner is the lowest of its loop.
abbrev pub lowest : List (ℕ × ℕ) → ℕ → Bool
lowest es p = list_all (nat_le p) (loop_from es p)

-- The loops of a graph, each from its lowest link, in the order of these.
abbrev pub loops_of : Kinds → List (ℕ × ℕ) → List (List ℕ)
loops_of k es = map (loop_from es) (filter (lowest es) (corners k))

abbrev pub loops : Connectedness → Kinds → List (List ℕ)
loops s k = loops_of k (graph s k)
