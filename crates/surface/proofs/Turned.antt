-- Two neighbours see the graph on the face between them in opposite directions. Assumes nothing.
use mathlib.Core.Path.{◌≡◌, sym, ap, subst}
use mathlib.Core.Bool.{Bool, ◌&&◌}
use mathlib.Core.List.{List}
use Prim.Native.Nat.{ℕ}
use lib.Dec.{T}
use Rattle.std.specs.List.{list_all, list_any}
use Rattle.grid.specs.declared.axis.Axis.TheVariants.{X, Y, Z}
use Rattle.grid.specs.declared.voxel.Voxel.{Voxel}
use Rattle.grid.proofs.Same.{voxel_same}
use Rattle.cube.specs.Lists.{In}
use Rattle.cube.specs.Cube.{solid}
use Rattle.cube.specs.Graph.{graph_on}
use Rattle.cube.specs.declared.pair.Connectedness.{Connectedness}
use Rattle.cube.proofs.Everywhere.{each_at}
use Rattle.cube.proofs.Listed.{and_left, and_right, every_at, some_at}
use Rattle.surface.specs.Places.{Solids, kinds_at, link_at}
use Rattle.surface.proofs.Numbered.{after}
use Rattle.surface.proofs.Offsets.{Related, meets, meets_same}
use Rattle.surface.proofs.Ways.{Way, down, up, west, east, south, north, ways, in_ways, over, offset_of, face_of}
use Rattle.surface.proofs.Faces.{sixteen, sixteen_at, walked}

-- One of two neighbours lies one further along an axis than the other.
abbrev pub Next : Way → Voxel → Voxel → Type 0
Next down u v = u ≡ after Z v
Next up u v = v ≡ after Z u
Next west u v = u ≡ after X v
Next east u v = v ≡ after X u
Next south u v = u ≡ after Y v
Next north u v = v ≡ after Y u

pub next_to : (w : Way) (u v : Voxel) → Related (offset_of w) u v → Next w u v
next_to down u v h = voxel_same u (after Z v) (h.0, h.1, h.2)
next_to up u v h = voxel_same v (after Z u) (sym h.0, sym h.1, h.2)
next_to west u v h = voxel_same u (after X v) (h.0, h.1, h.2)
next_to east u v h = voxel_same v (after X u) (h.0, sym h.1, sym h.2)
next_to south u v h = voxel_same u (after Y v) (h.0, h.1, h.2)
next_to north u v h = voxel_same v (after Y u) (sym h.0, h.1, sym h.2)

-- Edge g of the neighbour is edge e the other way round.
abbrev answers : Way → ℕ × ℕ → ℕ × ℕ → Bool
answers w e g = meets (offset_of w) e.0 g.1 && meets (offset_of w) e.1 g.0

-- The neighbour walks the face the other way, from the same voxel, and each edge has its answer there.
abbrev turned : Connectedness → Way → Bool → Bool → Bool → Bool → Bool
turned s w a b c d =
    let es = walked s (face_of (over w)) a d c b in
    list_all (λ e. list_any (answers w e) es) (walked s (face_of w) a b c d)

all_turned : (s : Connectedness) → T (list_all (λ w. sixteen (turned s w)) ways)
all_turned = each_at (λ s. list_all (λ w. sixteen (turned s w)) ways) tt

module _ (s : Connectedness) (solids : Solids) where
  -- The graph on a face by the kinds that the cube on the other side of it sees.
  abbrev seen : Way → Voxel → List (ℕ × ℕ)
  seen w u =
      let f = face_of w in
      let k = kinds_at solids u in
      walked s (face_of (over w)) (solid k f.a) (solid k f.d) (solid k f.c) (solid k f.b)

  abbrev own : Way → Voxel → List (ℕ × ℕ)
  own w v = graph_on s (kinds_at solids v) (face_of (over w))

  seen_own : (w : Way) (u v : Voxel) → Next w u v → seen w u ≡ own w v
  seen_own down u v e = ap (seen down) e
  seen_own up u v e = sym (ap (own up) e)
  seen_own west u v e = ap (seen west) e
  seen_own east u v e = sym (ap (own east) e)
  seen_own south u v e = ap (seen south) e
  seen_own north u v e = sym (ap (own north) e)

  -- Each edge on the face between two neighbours is an edge of both, in opposite directions.
  pub turned_back : (w : Way) (u v : Voxel) → Related (offset_of w) u v → (e : ℕ × ℕ) → In e (graph_on s (kinds_at solids u) (face_of w))
      → (g : ℕ × ℕ) × In g (graph_on s (kinds_at solids v) (face_of (over w)))
      × (link_at u e.0 ≡ link_at v g.1)
      × (link_at u e.1 ≡ link_at v g.0)
  turned_back w u v h e i =
      let f = face_of w in
      let k = kinds_at solids u in
      let t = sixteen_at (turned s w) (every_at (λ w. sixteen (turned s w)) ways (all_turned s) w (in_ways w)) (solid k f.a) (solid k f.b) (solid k f.c) (solid k f.d) in
      let r = some_at (answers w e) (seen w u) (every_at (λ e. list_any (answers w e) (seen w u)) (graph_on s k f) t e i) in
      let g = r.0 in
      let first = and_left (meets (offset_of w) e.0 g.1) (meets (offset_of w) e.1 g.0) r.2 in
      let second = and_right (meets (offset_of w) e.0 g.1) (meets (offset_of w) e.1 g.0) r.2 in (
        g,
        subst (In g) (seen_own w u v (next_to w u v h)) r.1,
        meets_same (offset_of w) u v h e.0 g.1 first,
        meets_same (offset_of w) u v h e.1 g.0 second,
      )
