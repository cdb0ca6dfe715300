-- No directed edge is laid twice. Assumes nothing.
use mathlib.Core.Path.{◌≡◌, sym, ap, subst, ◌∙◌}
use mathlib.Core.Logic.{⊎_elim}
use Prim.Native.Nat.{ℕ, zero, suc, ◌≤◌, ◌<◌}
use native.Mathlib.Omega.{arith}
use lib.Dec.{T}
use Rattle.grid.specs.Links.{link_number_of}
use Rattle.grid.specs.Cubes.{Low, cube_count}
use Rattle.grid.specs.declared.sides.Sides.{Sides}
use Rattle.grid.specs.declared.voxel.Voxel.{Voxel}
use Rattle.cube.specs.Lists.{In, Distinct}
use Rattle.cube.specs.Cube.{Face, faces, link_numbers}
use Rattle.cube.specs.Pairs.{of_solid}
use Rattle.cube.specs.Graph.{graph_on}
use Rattle.cube.specs.Cutting.{on_face}
use Rattle.cube.specs.Laws.{edges as cube_edges}
use Rattle.cube.specs.declared.pair.Pair.{Pair}
use Rattle.cube.proofs.Lawful.{lawful}
use Rattle.surface.specs.Places.{Solids, kinds_at, low_of}
use Rattle.surface.specs.Laid.{laid_at, laid, edges_of, edges, back}
use Rattle.surface.specs.Laws.{LaidOnce}
use Rattle.std.proofs.lemmas.Grind.{flat_map-append}
use Rattle.surface.proofs.Membership.{distinct_both, distinct_map}
use Rattle.surface.proofs.Numbered.{low_is, low_same, number_same}
use Rattle.surface.proofs.Offsets.{Related, link_once}
use Rattle.surface.proofs.Faces.{one_way, edge_links, edge_differs}
use Rattle.surface.proofs.Ways.{Way, over, offset_of, face_of, face_in, meeting}
use Rattle.surface.proofs.Turned.{turned_back}
use Rattle.surface.proofs.Sources.{inner, edge_at, part_from, edge_in, edges_at}

module _ (s : Sides) (p : Pair) (solids : Solids) where
  -- Two edges of a cube with the same numbers are one.
  pub edge_once : (u : Voxel) → Low s u → (d e : ℕ × ℕ) → In d.0 link_numbers × In d.1 link_numbers
      → In e.0 link_numbers × In e.1 link_numbers → edge_at s u d ≡ edge_at s u e → d ≡ e
  edge_once u h d e i j q =
      let first = link_once u d.0 e.0 i.0 j.0 (number_same s u u h h d.0 e.0 (ap (λ n. n.0) q)) in
      let second = link_once u d.1 e.1 i.1 j.1 (number_same s u u h h d.1 e.1 (ap (λ n. n.1) q)) in
      λ n. (first n, second n)

  -- The links of an edge that a cube lays.
  pub links_in : (u : Voxel) (d : ℕ × ℕ) → In d (cube_edges (inner s p solids u)) → In d.0 link_numbers × In d.1 link_numbers
  links_in u = edge_links p (kinds_at solids u)

  -- An edge on the face between two neighbours is laid by the other one the other way round.
  pub laid_across : (w : Way) (u v : Voxel) → Related (offset_of w) u v → (d : ℕ × ℕ) → In d (graph_on (of_solid p) (kinds_at solids u) (face_of w))
      → (g : ℕ × ℕ) × In g (graph_on (of_solid p) (kinds_at solids v) (face_of (over w)))
      × In g (cube_edges (inner s p solids v))
      × (edge_at s v g ≡ back (edge_at s u d))
  laid_across w u v r d i =
      let t = turned_back (of_solid p) solids w u v r d i in
      let first = ap (link_number_of s) t.3 in
      let second = ap (link_number_of s) t.2 in (
        t.0,
        t.1,
        (lawful p (kinds_at solids v)).whole_graph (face_of (over w)) (face_in (over w)) t.0 t.1,
        λ n. (sym first n, sym second n),
      )

  -- Two different cubes that have the same two links are neighbours through the face that holds both.
  pub neighbours : (u v : Voxel) → Low s u → Low s v → (u ≡ v → ⊥) → (d e : ℕ × ℕ) → In d.0 link_numbers × In d.1 link_numbers
      → In e.0 link_numbers × In e.1 link_numbers → (d.0 ≡ d.1 → ⊥) → edge_at s u d ≡ edge_at s v e
      → (w : Way) × Related (offset_of w) u v × T (on_face d.0 d.1 (face_of w))
  neighbours u v hu hv other d e i j two q =
      ⊎_elim (λ same. absurd (other same)) (λ r. r)
      (meeting u v d.0 e.0 d.1 e.1 i.0 j.0 i.1 j.1
      (number_same s u v hu hv d.0 e.0 (ap (λ n. n.0) q))
      (number_same s u v hu hv d.1 e.1 (ap (λ n. n.1) q)) two)

  -- Two cubes lay no edge both.
  pub not_twice : (u v : Voxel) → Low s u → Low s v → (u ≡ v → ⊥) → (d e : ℕ × ℕ) → In d (cube_edges (inner s p solids u))
      → In e (cube_edges (inner s p solids v)) → edge_at s u d ≡ edge_at s v e → ⊥
  not_twice u v hu hv two d e i j q =
      let n = neighbours u v hu hv two d e (links_in u d i) (links_in v e j) (edge_differs p (kinds_at solids u) d i) q in
      let f = face_of n.0 in
      let a = laid_across n.0 u v n.1 d ((lawful p (kinds_at solids u)).on_graph d i f (face_in n.0) n.2) in
      refuted (face_of (over n.0)) (face_in (over n.0)) a.0 a.1 a.2 (sym q ∙ sym (ap back a.3))
    where
      refuted : (f : Face) → In f faces → (g : ℕ × ℕ) → In g (graph_on (of_solid p) (kinds_at solids v) f)
          → In g (cube_edges (inner s p solids v)) → edge_at s v e ≡ edge_at s v (back g) → ⊥
      refuted f hf g on drawn r =
          let le = links_in v e j in
          let lg = links_in v g drawn in
          let same : e ≡ back g = edge_once v hv e (back g) le (lg.1, lg.0) r in
          one_way p (kinds_at solids v) f hf g on (subst (λ x. In x (cube_edges (inner s p solids v))) same j)

  once_at : (u : Voxel) → Low s u → Distinct (edges (laid_at s p solids u))
  once_at u h =
      subst Distinct (sym (edges_at s p solids u))
      (distinct_map (edge_at s u) (cube_edges (inner s p solids u))
      (λ d e i j. edge_once u h d e (links_in u d i) (links_in u e j)) (lawful p (kinds_at solids u)).once)

  pub once : (n : ℕ) → n ≤ cube_count s → Distinct (edges (laid s p solids n))
  once zero h = tt
  once (suc n) h =
      subst Distinct (sym (flat_map-append edges_of (laid s p solids n) (laid_at s p solids (low_of s n))))
      (distinct_both (edges (laid s p solids n)) (edges (laid_at s p solids (low_of s n))) (once n (omega arith))
      (once_at (low_of s n) (low_is s n (omega arith))) apart)
    where
      apart : (e : ℕ × ℕ) → In e (edges (laid s p solids n)) → In e (edges (laid_at s p solids (low_of s n))) → ⊥
      apart e i j =
          let a = part_from s p solids edges_of e n i in
          let c = a.0 in
          let lt : c < n = a.1 in
          let hc : c < cube_count s = omega arith in
          let hn : n < cube_count s = omega arith in
          let x = edge_in s p solids (low_of s c) e a.2 in
          let y = edge_in s p solids (low_of s n) e j in
          let other : low_of s c ≡ low_of s n → ⊥ = λ q. let m = low_same s c n hc hn q in omega arith in
          not_twice (low_of s c) (low_of s n) (low_is s c hc) (low_is s n hn) other x.0 y.0 x.1 y.1 (sym x.2 ∙ y.2)

pub laid_once : LaidOnce
laid_once = once
