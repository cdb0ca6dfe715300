-- The cubes come by their numbers, and their triangles have three different link numbers. Assumes nothing.
use mathlib.Core.Path.{◌≡◌, refl, sym, ap, subst}
use mathlib.Core.Logic.{inl, inr}
use mathlib.Core.List.{◌++◌}
use Prim.Native.Nat.{ℕ, ◌+◌, ◌<◌}
use native.Mathlib.Numerals.{add-one}
use native.Mathlib.Omega.{arith}
use Rattle.grid.specs.Cubes.{Low, cube_count}
use Rattle.grid.specs.declared.sides.Sides.{Sides}
use Rattle.grid.specs.declared.voxel.Voxel.{Voxel}
use Rattle.cube.specs.Lists.{In}
use Rattle.cube.specs.Laws.{edges as cube_edges}
use Rattle.cube.specs.declared.pair.Pair.{Pair}
use Rattle.cube.specs.declared.triangle.CubeTriangle.{CubeTriangle}
use Rattle.surface.specs.Places.{Solids, kinds_at, number_at, low_of}
use Rattle.surface.specs.Laid.{Triangle, numbered, laid_at, laid}
use Rattle.surface.specs.Laws.{Sound, LaidByRule}
use Rattle.surface.proofs.Membership.{map_in}
use Rattle.surface.proofs.Numbered.{low_is, low_number, number_below, number_same}
use Rattle.surface.proofs.Offsets.{link_once}
use Rattle.surface.proofs.Faces.{edge_links, edge_differs, triangle_edge}
use Rattle.surface.proofs.Sources.{inner, triangle_from}

module _ (s : Sides) (p : Pair) (solid : Solids) (u : Voxel) (h : Low s u) where
  -- Two links of an edge have different numbers.
  pub numbers_differ : (e : ℕ × ℕ) → In e (cube_edges (inner s p solid u)) → number_at s u e.0 ≡ number_at s u e.1 → ⊥
  numbers_differ e i q =
      let l = edge_links p (kinds_at solid u) e i in
      edge_differs p (kinds_at solid u) e i
      (link_once u e.0 e.1 l.0 l.1 (number_same s u u h h e.0 e.1 q))

  sound_numbered : (t : CubeTriangle) → In t (inner s p solid u) → Sound (numbered s u t)
  sound_numbered t i =
      let k = kinds_at solid u in
      let pq = triangle_edge p k t i (t.0, t.1) (inl refl) in
      let qr = triangle_edge p k t i (t.1, t.2) (inr (inl refl)) in
      let rp = triangle_edge p k t i (t.2, t.0) (inr (inr (inl refl))) in
      let links = edge_links p k (t.0, t.1) pq in
      record {
        below = (
          number_below s u h t.0 links.0,
          number_below s u h t.1 links.1,
          number_below s u h t.2 (edge_links p k (t.1, t.2) qr).1,
        );
        different = (numbers_differ (t.0, t.1) pq, numbers_differ (t.1, t.2) qr, numbers_differ (t.2, t.0) rp);
      }

  pub sound_at : (t : Triangle) → In t (laid_at s p solid u) → Sound t
  sound_at t i =
      let r = map_in (numbered s u) t (inner s p solid u) i in
      subst Sound (sym r.2) (sound_numbered r.0 r.1)

-- One cube more lays its triangles after the others.
pub laid_next : (s : Sides) (p : Pair) (solid : Solids) (n : ℕ) → laid s p solid (n + 1) ≡ laid s p solid n ++ laid_at s p solid (low_of s n)
laid_next s p solid n = ap (laid s p solid) (add-one n)

pub laid_by_rule : LaidByRule
laid_by_rule s p solid n h =
    record {
      low = λ c l. low_is s c (omega arith);
      number = λ c l. low_number s c (omega arith);
      none = refl;
      next = λ c l. refl;
      sound = λ t i.
          let r = triangle_from s p solid n t i in
          let lt : r.0 < cube_count s = omega (arith, r.1) in
          sound_at s p solid (low_of s r.0) (low_is s r.0 lt) t r.2;
    }
