-- From which cube a laid triangle, edge or corner comes. Assumes nothing.
use mathlib.Core.Path.{◌≡◌, refl, sym, ap, subst}
use mathlib.Core.Logic.{⊎_elim}
use mathlib.Core.List.{List, [], ◌∷◌, map}
use Prim.Native.Nat.{ℕ, zero, suc, ◌≤◌, ◌<◌}
use Rattle.std.specs.List.{flat_map}
use native.Mathlib.Nat.{eq-or-lt_of_le}
use native.Mathlib.Omega.{arith}
use Rattle.grid.specs.declared.sides.Sides.{Sides}
use Rattle.grid.specs.declared.voxel.Voxel.{Voxel}
use Rattle.cube.specs.Lists.{In}
use Rattle.cube.specs.Triangles.{triangles}
use Rattle.cube.specs.Laws.{edges as cube_edges, corners_of as cube_corners_of}
use Rattle.cube.specs.declared.pair.Pair.{Pair}
use Rattle.cube.specs.declared.triangle.CubeTriangle.{CubeTriangle}
use Rattle.surface.specs.Places.{Solids, kinds_at, number_at, low_of}
use Rattle.surface.specs.Laid.{Triangle, numbered, laid_at, laid, edges, corners}
use Rattle.std.proofs.lemmas.Grind.{flat_map-append}
use Rattle.surface.proofs.Membership.{in_left, in_right, in_either, in_map, map_in}

-- An edge of a cube in the scan's link numbers.
abbrev pub edge_at : Sides → Voxel → ℕ × ℕ → ℕ × ℕ
edge_at s u e = (number_at s u e.0, number_at s u e.1)

edges_numbered : (s : Sides) (u : Voxel) (ts : List CubeTriangle) → edges (map (numbered s u) ts) ≡ map (edge_at s u) (cube_edges ts)
edges_numbered s u [] = refl
edges_numbered s u (t ∷ ts) =
    ap (λ es. edge_at s u (t.0, t.1) ∷ edge_at s u (t.1, t.2) ∷ edge_at s u (t.2, t.0) ∷ es) (edges_numbered s u ts)

corners_numbered : (s : Sides) (u : Voxel) (ts : List CubeTriangle) → corners (map (numbered s u) ts) ≡ map (number_at s u) (flat_map cube_corners_of ts)
corners_numbered s u [] = refl
corners_numbered s u (t ∷ ts) =
    ap (λ ls. number_at s u t.0 ∷ number_at s u t.1 ∷ number_at s u t.2 ∷ ls) (corners_numbered s u ts)

-- A cube among the first n is among the first n + 1.
later : (c n : ℕ) → c < n → c < suc n
later c n h = omega arith

module _ (s : Sides) (p : Pair) (solid : Solids) where
  -- The triangles of a cube before their links are numbered.
  abbrev pub inner : Voxel → List CubeTriangle
  inner u = triangles p (kinds_at solid u)

  -- A laid triangle is laid by one of the first n cubes.
  pub triangle_from : (n : ℕ) (t : Triangle) → In t (laid s p solid n)
      → (c : ℕ) × (c < n) × In t (laid_at s p solid (low_of s c))
  triangle_from zero t i = absurd i
  triangle_from (suc n) t i =
      ⊎_elim (λ j. let r = triangle_from n t j in (r.0, later r.0 n r.1, r.2)) (λ j. (n, omega arith, j))
      (in_either t (laid s p solid n) (laid_at s p solid (low_of s n)) i)

  -- What the triangles show, as edges or corners, is shown by the triangles of one of the first n cubes.
  module _ {B : Type 0} (show : Triangle → List B) (b : B) where
    pub part_from : (n : ℕ) → In b (flat_map show (laid s p solid n))
        → (c : ℕ) × (c < n) × In b (flat_map show (laid_at s p solid (low_of s c)))
    part_from zero i = absurd i
    part_from (suc n) i =
        ⊎_elim (λ j. let r = part_from n j in (r.0, later r.0 n r.1, r.2)) (λ j. (n, omega arith, j))
        (in_either b (flat_map show (laid s p solid n)) (flat_map show (laid_at s p solid (low_of s n)))
        (subst (In b) (flat_map-append show (laid s p solid n) (laid_at s p solid (low_of s n))) i))

    pub part_laid : (n c : ℕ) → c < n → In b (flat_map show (laid_at s p solid (low_of s c))) → In b (flat_map show (laid s p solid n))
    part_laid zero c h i = absurd (omega arith)
    part_laid (suc n) c h i =
        let before = flat_map show (laid s p solid n) in
        let here = flat_map show (laid_at s p solid (low_of s n)) in
        let le : c ≤ n = omega arith in
        subst (In b) (sym (flat_map-append show (laid s p solid n) (laid_at s p solid (low_of s n))))
        (⊎_elim (λ q. in_right b before here (subst (λ m. In b (flat_map show (laid_at s p solid (low_of s m)))) q i))
        (λ l. in_left b before here (part_laid n c l i)) (eq-or-lt_of_le le))

  -- An edge that a cube lays is an edge of its triangles.
  pub edge_in : (u : Voxel) (e : ℕ × ℕ) → In e (edges (laid_at s p solid u))
      → (d : ℕ × ℕ) × In d (cube_edges (inner u)) × (e ≡ edge_at s u d)
  edge_in u e i = map_in (edge_at s u) e (cube_edges (inner u)) (subst (In e) (edges_numbered s u (inner u)) i)

  pub in_edge : (u : Voxel) (d : ℕ × ℕ) → In d (cube_edges (inner u)) → In (edge_at s u d) (edges (laid_at s p solid u))
  in_edge u d i = subst (In (edge_at s u d)) (sym (edges_numbered s u (inner u))) (in_map (edge_at s u) d (cube_edges (inner u)) i)

  pub edges_at : (u : Voxel) → edges (laid_at s p solid u) ≡ map (edge_at s u) (cube_edges (inner u))
  edges_at u = edges_numbered s u (inner u)

  -- A corner that a cube lays is a corner of its triangles.
  pub corner_in : (u : Voxel) (m : ℕ) → In m (corners (laid_at s p solid u))
      → (l : ℕ) × In l (flat_map cube_corners_of (inner u)) × (m ≡ number_at s u l)
  corner_in u m i =
      map_in (number_at s u) m (flat_map cube_corners_of (inner u)) (subst (In m) (corners_numbered s u (inner u)) i)

  pub in_corner : (u : Voxel) (l : ℕ) → In l (flat_map cube_corners_of (inner u)) → In (number_at s u l) (corners (laid_at s p solid u))
  in_corner u l i =
      subst (In (number_at s u l)) (sym (corners_numbered s u (inner u)))
      (in_map (number_at s u) l (flat_map cube_corners_of (inner u)) i)
