-- What holds of the triangles of every cube, under each of the four pairs. Assumes nothing.
use Rattle.std.specs.Prelude.{◌≡◌, ℕ, ◌≤◌, true, false, T, not, ℤ, pos, int_le, List, [], ◌∷◌, map, length, flat_map}
use Rattle.cube.specs.Lists.{In, Distinct}
use Rattle.cube.specs.Cube.{Face, faces, Kinds, solid, exchange, lower, upper}
use Rattle.cube.specs.Pairs.{of_solid, of_hollow, swap}
use Rattle.cube.specs.Graph.{graph_on}
use Rattle.cube.specs.Loops.{corners}
use Rattle.cube.specs.Cutting.{on_face, corner_point, voxel_point, minus, cross, dot}
use Rattle.cube.specs.Triangles.{triangles, turn_over, opposite}
use Rattle.cube.specs.Joined.{Joined}
use Rattle.cube.specs.declared.pair.Pair.{Pair}
use Rattle.cube.specs.declared.pair.Pair.TheVariants.{S18H6, S26H6, S6H18, S6H26}
use Rattle.cube.specs.declared.triangle.CubeTriangle.{CubeTriangle}

-- A triangle (p, q, r) lays the directed edges p to q, q to r and r to p.
abbrev pub edges_of : CubeTriangle → List (ℕ × ℕ)
edges_of t = (t.0, t.1) ∷ (t.1, t.2) ∷ (t.2, t.0) ∷ []

abbrev pub edges : List CubeTriangle → List (ℕ × ℕ)
edges ts = flat_map edges_of ts

abbrev pub corners_of : CubeTriangle → List ℕ
corners_of t = t.0 ∷ t.1 ∷ t.2 ∷ []

-- The solid and the hollow end of a link that carries a corner.
abbrev pub solid_end : Kinds → ℕ → ℕ
solid_end k l = elim (solid k (lower l)) [ true ↦ lower l | false ↦ upper l ]

abbrev pub hollow_end : Kinds → ℕ → ℕ
hollow_end k l = elim (solid k (lower l)) [ true ↦ upper l | false ↦ lower l ]

-- An edge lies on a face when both its links do.
abbrev pub Lies : ℕ × ℕ → Face → Type 0
Lies e f = T (on_face e.0 e.1 f)

-- Where a voxel lies of a triangle: the determinant of q - p, r - p and w - p, which is above 0 in front of it.
abbrev pub in_front : CubeTriangle → ℕ → ℤ
in_front t v =
    let p = corner_point t.0 in
    dot (cross (minus (corner_point t.1) p) (minus (corner_point t.2) p)) (minus (voxel_point v) p)

-- A triangle turns its front to hollow: of its corners' links no solid end lies in front of it, no hollow end behind, and it is not flat.
pub record Outward (k : Kinds) (t : CubeTriangle) : Type 0 where
  pub solid_behind : (l : ℕ) → In l (corners_of t) → T (int_le (in_front t (solid_end k l)) (pos 0))
  pub hollow_in_front : (l : ℕ) → In l (corners_of t) → T (int_le (pos 0) (in_front t (hollow_end k l)))
  pub turned : (l : ℕ) × In l (corners_of t) × T (not (int_le (in_front t (hollow_end k l)) (pos 0)))

-- A tube has six triangles, any other cube at most five.
abbrev pub most : Pair → Kinds → ℕ
most S18H6 k = 5
most S26H6 k = elim (opposite k) [ true ↦ 6 | false ↦ 5 ]
most S6H18 k = 5
most S6H26 k = elim (opposite (exchange k)) [ true ↦ 6 | false ↦ 5 ]

pub record Lawful (p : Pair) (k : Kinds) (ts : List CubeTriangle) : Type 0 where
  -- No directed edge is laid twice.
  pub once : Distinct (edges ts)
  -- An edge that lies on a face is an edge of that face's graph, and every edge of the graph is laid.
  pub on_graph : (e : ℕ × ℕ) → In e (edges ts) → (f : Face) → In f faces → Lies e f → In e (graph_on (of_solid p) k f)
  pub whole_graph : (f : Face) → In f faces → (e : ℕ × ℕ) → In e (graph_on (of_solid p) k f) → In e (edges ts)
  -- An edge that lies on no face, a chord, is laid the other way too.
  pub chord : (e : ℕ × ℕ) → In e (edges ts) → ((f : Face) → In f faces → Lies e f → ⊥) → In (e.1, e.0) (edges ts)
  -- The corners of the triangles are the links between a solid and a hollow voxel.
  pub corner : (l : ℕ) → In l (flat_map corners_of ts) → In l (corners k)
  pub every_corner : (l : ℕ) → In l (corners k) → In l (flat_map corners_of ts)
  -- The solid ends of an edge's two links are joined in the cube, and so are the hollow ends.
  pub solid_ends : (e : ℕ × ℕ) → In e (edges ts) → Joined (of_solid p) k (solid_end k e.0) (solid_end k e.1)
  pub hollow_ends : (e : ℕ × ℕ) → In e (edges ts) → Joined (of_hollow p) (exchange k) (hollow_end k e.0) (hollow_end k e.1)
  -- Every triangle turns its front to hollow.
  pub outward : (t : CubeTriangle) → In t ts → Outward k t
  pub few : length ts ≤ most p k
  -- The exchanged cube under the swapped pair lays these triangles turned over, one by one.
  pub mirror : triangles (swap p) (exchange k) ≡ map turn_over ts

-- A loop has three to seven corners.
pub record Sized (loop : List ℕ) : Type 0 where
  pub least : 3 ≤ length loop
  pub greatest : length loop ≤ 7

-- The loops of a cube: each of three to seven corners, no corner in two of them or twice in one, each corner in one.
pub record Looped (k : Kinds) (ls : List (List ℕ)) : Type 0 where
  pub sized : (l : List ℕ) → In l ls → Sized l
  pub apart : Distinct (flat_map (λ l. l) ls)
  pub corner : (l : ℕ) → In l (flat_map (λ l. l) ls) → In l (corners k)
  pub every_corner : (l : ℕ) → In l (corners k) → In l (flat_map (λ l. l) ls)
