-- The ends of the links of an edge are joined in the cube that laid it. Assumes nothing.
use mathlib.Core.Path.{◌≡◌, refl, sym, ap, ap₂, subst, ◌∙◌}
use mathlib.Core.Bool.{Bool, true, false}
use Prim.Native.Nat.{ℕ, zero, suc, ◌+◌, ◌≤◌, ◌<◌}
use native.Mathlib.Omega.{arith}
use lib.Dec.{T, eqb, eqb→eq, eqb_refl, eqb-zero-suc, eqb-suc-zero}
use Rattle.grid.specs.Cubes.{Low, cube_count}
use Rattle.grid.specs.declared.sides.Sides.{Sides}
use Rattle.grid.specs.declared.voxel.Voxel.{Voxel}
use Rattle.cube.specs.Lists.{In}
use Rattle.cube.specs.Cube.{dx, dy, dz, solid}
use Rattle.cube.specs.Pairs.{of_solid, of_hollow, differ, reach, apart as cube_apart, Connected as CubeConnected}
use Rattle.cube.specs.Joined.{Joined as CubeJoined, one as cube_one, step as cube_step}
use Rattle.cube.specs.Laws.{edges as cube_edges, solid_end as cube_solid_end, hollow_end as cube_hollow_end}
use Rattle.cube.specs.declared.pair.Connectedness.{Connectedness}
use Rattle.cube.specs.declared.pair.Pair.{Pair}
use Rattle.cube.proofs.Voxels.{solid_voxel}
use Rattle.cube.proofs.Lawful.{lawful}
use Rattle.surface.specs.Places.{Solids, onward, voxel_at, kinds_at, link_at, low_of}
use Rattle.surface.specs.Laid.{edges_of}
use Rattle.surface.specs.Joined.{hollow_of, apart, Close, Connected, Joined, one, step, solid_end, hollow_end}
use Rattle.surface.specs.Laws.{EndsJoined, AllJoined}
use Rattle.surface.proofs.Numbered.{onward_least, onward_most, within_at, low_is, links_at}
use Rattle.surface.proofs.KindsAt.{kind_at, solid_end_at, hollow_end_at}
use Rattle.surface.proofs.Faces.{edge_links}
use Rattle.surface.proofs.Sources.{inner, edge_at, part_from, edge_in}

-- A test that passes is true, and one that cannot pass is false.
passed : (b : Bool) → T b → b ≡ true
passed true t = refl
passed false t = absurd t

failed : (b : Bool) → (T b → ⊥) → b ≡ false
failed true f = absurd (f tt)
failed false f = refl

-- Coordinates in a cube differ as the steps to them do.
differ_at : (d e x : ℕ) → d < 2 → e < 2 → eqb (onward d x) (onward e x) ≡ eqb d e
differ_at zero zero x hd he = passed (eqb x x) (eqb_refl x)
differ_at zero (suc e) x hd he = failed (eqb x (suc x)) (λ t. never (eqb→eq x (suc x) t)) ∙ sym (eqb-zero-suc e)
  where
    never : x ≡ suc x → ⊥
    never q = omega arith
differ_at (suc d) zero x hd he = failed (eqb (suc x) x) (λ t. never (eqb→eq (suc x) x t)) ∙ sym (eqb-suc-zero d)
  where
    never : suc x ≡ x → ⊥
    never q = omega arith
differ_at (suc zero) (suc zero) x hd he = passed (eqb (suc x) (suc x)) (eqb_refl (suc x))
differ_at (suc zero) (suc (suc e)) x hd he = absurd (omega arith)
differ_at (suc (suc d)) (suc e) x hd he = absurd (omega arith)

close_at : (d e x : ℕ) → Close (onward d x) (onward e x)
close_at d e x =
    let a = onward_least d x in
    let b = onward_most d x in
    let c = onward_least e x in
    let f = onward_most e x in
    (omega arith, omega arith)

module _ (u : Voxel) where
  pub apart_at : (i j : ℕ) → apart (voxel_at u i) (voxel_at u j) ≡ cube_apart i j
  apart_at i j =
      ap₂ (λ a b. a + b)
      (ap₂ (λ a b. differ a + differ b)
      (differ_at (dx i) (dx j) u.x (omega arith) (omega arith))
      (differ_at (dy i) (dy j) u.y (omega arith) (omega arith)))
      (ap differ (differ_at (dz i) (dz j) u.z (omega arith) (omega arith)))

  connected_at : (c : Connectedness) (i j : ℕ) → CubeConnected c i j → Connected c (voxel_at u i) (voxel_at u j)
  connected_at c i j h =
      record {
        x = close_at (dx i) (dx j) u.x;
        y = close_at (dy i) (dy j) u.y;
        z = close_at (dz i) (dz j) u.z;
        different = subst (λ n. 1 ≤ n) (sym (apart_at i j)) h.0;
        few = subst (λ n. n ≤ reach c) (sym (apart_at i j)) h.1;
      }

  -- Voxels joined in a cube are joined where they lie in the scan.
  module _ (c : Connectedness) (solids : Solids) (a : ℕ) where
    solid_at : (i : ℕ) → T (solid (kinds_at solids u) i) → T (solids (voxel_at u i))
    solid_at i t = subst T (kind_at solids u i (solid_voxel (kinds_at solids u) i t)) t

    joined_at : {b : ℕ} → CubeJoined c (kinds_at solids u) a b → Joined c solids u (voxel_at u a) (voxel_at u b)
    joined_at (cube_one t) = one (within_at u a) (solid_at a t)
    joined_at (cube_step {b} {d} j h t) = step (joined_at j) (connected_at c b d h) (within_at u d) (solid_at d t)

module _ (s : Sides) (p : Pair) (solids : Solids) (u : Voxel) (h : Low s u) where
  ends_of : (d : ℕ × ℕ) → In d (cube_edges (inner s p solids u)) → EndsJoined s p solids u (edge_at s u d)
  ends_of d i =
      let k = kinds_at solids u in
      let l = edge_links p k d i in
      let law = lawful p k in
      record {
        from = link_at u d.0;
        to = link_at u d.1;
        of_scan = (links_at s u h d.0 l.0, links_at s u h d.1 l.1);
        numbers = refl;
        solid_ends =
            subst (λ a. Joined (of_solid p) solids u a (solid_end solids (link_at u d.1))) (solid_end_at solids u d.0 l.0)
            (subst (Joined (of_solid p) solids u (voxel_at u (cube_solid_end k d.0))) (solid_end_at solids u d.1 l.1)
            (joined_at u (of_solid p) solids (cube_solid_end k d.0) (law.solid_ends d i)));
        hollow_ends =
            subst (λ a. Joined (of_hollow p) (hollow_of solids) u a (hollow_end solids (link_at u d.1))) (hollow_end_at solids u d.0 l.0)
            (subst (Joined (of_hollow p) (hollow_of solids) u (voxel_at u (cube_hollow_end k d.0))) (hollow_end_at solids u d.1 l.1)
            (joined_at u (of_hollow p) (hollow_of solids) (cube_hollow_end k d.0) (law.hollow_ends d i)));
      }

pub all_joined : AllJoined
all_joined s p solids n h =
    record {
      laid_by = λ e i. part_from s p solids edges_of e n i;
      joined = λ c l e i.
          let r = edge_in s p solids (low_of s c) e i in
          let lt : c < cube_count s = omega arith in
          subst (EndsJoined s p solids (low_of s c)) (sym r.2) (ends_of s p solids (low_of s c) (low_is s c lt) r.0 r.1);
    }
