-- What the graph on a face of a cube forbids, and the links of an edge. Assumes nothing.
use mathlib.Core.Path.{◌≡◌, refl, sym, ap, subst}
use mathlib.Core.Logic.{inl, inr}
use mathlib.Core.Bool.{Bool, true, false, not, ◌&&◌}
use mathlib.Core.List.{List, [], ◌∷◌}
use Prim.Native.Nat.{ℕ}
use lib.Dec.{T, T_not}
use Rattle.std.specs.List.{flat_map, list_all, list_any}
use Rattle.cube.specs.Lists.{same, In}
use Rattle.cube.specs.Cube.{Face, faces, Kinds, solid, link_numbers, crossing}
use Rattle.cube.specs.Pairs.{of_solid}
use Rattle.cube.specs.Graph.{round, graph_on}
use Rattle.cube.specs.Cutting.{on_face}
use Rattle.cube.specs.Triangles.{triangles}
use Rattle.cube.specs.Laws.{edges, edges_of, corners_of}
use Rattle.cube.specs.declared.pair.Connectedness.{Connectedness}
use Rattle.cube.specs.declared.pair.Pair.{Pair}
use Rattle.cube.specs.declared.triangle.CubeTriangle.{CubeTriangle}
use Rattle.cube.proofs.Listed.{and_left, and_right, every_at, some_at, finds, same_itself}
use Rattle.cube.specs.Everywhere.{either}
use Rattle.cube.proofs.Everywhere.{either_at, each_at}
use Rattle.cube.proofs.Lawful.{lawful}
use Rattle.surface.proofs.Membership.{kept, flat_map_in}

-- A test of the four kinds on a face passes at all sixteen.
abbrev pub sixteen : (Bool → Bool → Bool → Bool → Bool) → Bool
sixteen f = either λ a. either λ b. either λ c. either λ d. f a b c d

pub sixteen_at : (f : Bool → Bool → Bool → Bool → Bool) → T (sixteen f) → (a b c d : Bool) → T (f a b c d)
sixteen_at f t a b c d =
    let ta = either_at (λ a. either λ b. either λ c. either λ d. f a b c d) t a in
    let tb = either_at (λ b. either λ c. either λ d. f a b c d) ta b in
    let tc = either_at (λ c. either λ d. f a b c d) tb c in
    either_at (f a b c) tc d

-- The edges on a face whose voxels have the kinds a, b, c, d on its walk.
abbrev pub walked : Connectedness → Face → Bool → Bool → Bool → Bool → List (ℕ × ℕ)
walked s f a b c d = round s a b c d f.ab f.bc f.cd f.da

-- An edge of a face lies on it, and the other way round it is no edge of the face.
abbrev single : List (ℕ × ℕ) → Face → ℕ × ℕ → Bool
single es f e = on_face e.1 e.0 f && not (list_any (same (e.1, e.0)) es)

abbrev singles : Connectedness → Face → Bool → Bool → Bool → Bool → Bool
singles s f a b c d = let es = walked s f a b c d in list_all (single es f) es

all_single : (s : Connectedness) → T (list_all (λ f. sixteen (singles s f)) faces)
all_single = each_at (λ s. list_all (λ f. sixteen (singles s f)) faces) tt

-- A face with voxels of one kind has no edge.
pub no_edge : (s : Connectedness) (f : Face) (b : Bool) → walked s f b b b b ≡ []
no_edge s f true = refl
no_edge s f false = refl

module _ (p : Pair) (k : Kinds) (f : Face) (hf : In f faces) where
  single_on : (g : ℕ × ℕ) → In g (graph_on (of_solid p) k f) → T (single (graph_on (of_solid p) k f) f g)
  single_on =
      every_at (single (graph_on (of_solid p) k f) f) (graph_on (of_solid p) k f)
      (sixteen_at (singles (of_solid p) f) (every_at (λ f. sixteen (singles (of_solid p) f)) faces (all_single (of_solid p)) f hf)
      (solid k f.a) (solid k f.b) (solid k f.c) (solid k f.d))

  -- No triangle of a cube lays an edge of a face the other way round.
  pub one_way : (g : ℕ × ℕ) → In g (graph_on (of_solid p) k f) → In (g.1, g.0) (edges (triangles p k)) → ⊥
  one_way g i j =
      let es = graph_on (of_solid p) k f in
      let t = single_on g i in
      let lies = and_left (on_face g.1 g.0 f) (not (list_any (same (g.1, g.0)) es)) t in
      let none = and_right (on_face g.1 g.0 f) (not (list_any (same (g.1, g.0)) es)) t in
      T_not (list_any (same (g.1, g.0)) es) none
      (finds same same_itself (g.1, g.0) es ((lawful p k).on_graph (g.1, g.0) j f hf lies))

-- The links of an edge are corners of its triangle.
edge_corners : (e : ℕ × ℕ) (ts : List CubeTriangle) → In e (edges ts) → In e.0 (flat_map corners_of ts) × In e.1 (flat_map corners_of ts)
edge_corners e [] i = absurd i
edge_corners e (t ∷ ts) (inl q) = (inl (ap (λ d. d.0) q), inr (inl (ap (λ d. d.1) q)))
edge_corners e (t ∷ ts) (inr (inl q)) = (inr (inl (ap (λ d. d.0) q)), inr (inr (inl (ap (λ d. d.1) q))))
edge_corners e (t ∷ ts) (inr (inr (inl q))) = (inr (inr (inl (ap (λ d. d.0) q))), inl (ap (λ d. d.1) q))
edge_corners e (t ∷ ts) (inr (inr (inr i))) = let r = edge_corners e ts i in (inr (inr (inr r.0)), inr (inr (inr r.1)))

-- Each link of the cube lies on a face of it.
all_on_faces : T (list_all (λ l. list_any (on_face l l) faces) link_numbers)
all_on_faces = tt

module _ (p : Pair) (k : Kinds) where
  pub corner_link : (l : ℕ) → In l (flat_map corners_of (triangles p k)) → In l link_numbers
  corner_link l i = (kept (crossing k) l link_numbers ((lawful p k).corner l i)).0

  pub edge_links : (e : ℕ × ℕ) → In e (edges (triangles p k)) → In e.0 link_numbers × In e.1 link_numbers
  edge_links e i =
      let r = edge_corners e (triangles p k) i in
      (corner_link e.0 r.0, corner_link e.1 r.1)

  -- The two links of an edge are different.
  pub edge_differs : (e : ℕ × ℕ) → In e (edges (triangles p k)) → e.0 ≡ e.1 → ⊥
  edge_differs e i q =
      let r = some_at (on_face e.0 e.0) faces
      (every_at (λ l. list_any (on_face l l) faces) link_numbers all_on_faces e.0 (edge_links e i).0) in
      let lies = subst (λ l. T (on_face e.0 l r.0)) q r.2 in
      let turned : e ≡ (e.1, e.0) = λ n. (q n, sym q n) in
      one_way p k r.0 r.1 e ((lawful p k).on_graph e i r.0 r.1 lies) (subst (λ d. In d (edges (triangles p k))) turned i)

  -- The three edges of a triangle are edges of the cube.
  pub triangle_edge : (t : CubeTriangle) → In t (triangles p k) → (e : ℕ × ℕ) → In e (edges_of t) → In e (edges (triangles p k))
  triangle_edge t i e = flat_map_in edges_of e t (triangles p k) i
