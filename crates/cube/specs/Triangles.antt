-- The triangles of a cube under each of the four pairs. Assumes nothing.
use Rattle.std.specs.Prelude.{ℕ, ◌+◌, ◌-◌, Bool, true, false, List, [], ◌∷◌, ◌++◌, map, length, ◌==◌, nat_eq, ◌&&◌, flat_map, filter}
use Rattle.std.specs.List.{list_any}
use Rattle.cube.specs.Cube.{Kinds, solid, exchange, axis, voxels}
use Rattle.cube.specs.Graph.{graph}
use Rattle.cube.specs.Loops.{loops, loops_of}
use Rattle.cube.specs.Cutting.{body, cut_loop, from_low, triangle}
use Rattle.cube.specs.declared.pair.Connectedness.{Connectedness}
use Rattle.cube.specs.declared.pair.Connectedness.TheVariants.{Eighteen, TwentySix}
use Rattle.cube.specs.declared.pair.Pair.{Pair}
use Rattle.cube.specs.declared.pair.Pair.TheVariants.{S18H6, S26H6, S6H18, S6H26}
use Rattle.cube.specs.declared.triangle.CubeTriangle.{CubeTriangle}

-- The loops cut one after the other.
unfoldable pub cut_all : Connectedness → Kinds → List CubeTriangle
cut_all s k =
    let es = graph s k in
    let w = body k in
    flat_map (cut_loop es w) (loops_of k es)

-- Just two voxels are solid, at opposite ends of the cube.
abbrev pub opposite : Kinds → Bool
opposite k =
    length (filter (solid k) voxels) == 2 && list_any (λ i. solid k i && solid k (7 - i)) (0 ∷ 1 ∷ 2 ∷ 3 ∷ [])

-- The corner of a loop whose link has the axis of neither p nor q, which have two different axes.
abbrev pub third : List ℕ → ℕ → ℕ → List ℕ
third loop p q = filter (λ r. nat_eq (axis p + axis q + axis r) 3) loop

abbrev pub strip : List ℕ → ℕ → ℕ → List CubeTriangle
strip loop p q = map (from_low p q) (third loop p q)

-- The side of a tube along one loop of three: each edge of it with the corner of the other loop that has the third axis.
abbrev pub side : List ℕ → List ℕ → List CubeTriangle
side [] other = []
side (p ∷ []) other = []
side (p ∷ q ∷ []) other = []
side (p ∷ q ∷ r ∷ rest) other = strip other p q ++ (strip other q r ++ strip other r p)

abbrev pub tube : List (List ℕ) → List CubeTriangle
tube [] = []
tube (a ∷ []) = []
tube (a ∷ b ∷ rest) = side a b ++ side b a

-- A triangle turned over: its last two corners exchanged.
abbrev pub turn_over : CubeTriangle → CubeTriangle
turn_over t = triangle t.0 t.2 t.1

unfoldable pub with_tube : Kinds → List CubeTriangle
with_tube k = elim (opposite k) [ true ↦ tube (loops TwentySix k) | false ↦ cut_all TwentySix k ]

-- The triangles of a cube. Where solid is 6-connected they are those of the exchanged cube under the swapped pair, turned over.
abbrev pub triangles : Pair → Kinds → List CubeTriangle
triangles S18H6 k = cut_all Eighteen k
triangles S26H6 k = with_tube k
triangles S6H18 k = map turn_over (cut_all Eighteen (exchange k))
triangles S6H26 k = map turn_over (with_tube (exchange k))
