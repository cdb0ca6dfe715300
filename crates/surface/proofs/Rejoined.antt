-- Voxels joined in a cube of the scan are voxels of the cube, joined there. Assumes nothing.
use mathlib.Core.Path.{◌≡◌, sym, ap, subst, ◌∙◌}
use mathlib.Core.Logic.{◌⊎◌, inl, inr, ⊎_elim}
use Prim.Native.Nat.{ℕ, suc, ◌≤◌, ◌<◌}
use native.Mathlib.Nat.{eq-or-lt_of_le}
use native.Mathlib.Omega.{arith}
use lib.Dec.{T, eqb, eqb→eq}
use Rattle.std.specs.List.{list_any}
use Rattle.grid.specs.declared.voxel.Voxel.{Voxel}
use Rattle.grid.proofs.Same.{voxel_same}
use Rattle.cube.specs.Lists.{In}
use Rattle.cube.specs.Cube.{solid as solid_in, voxels}
use Rattle.cube.specs.Pairs.{reach, Connected as CubeConnected}
use Rattle.cube.specs.Joined.{one as cube_one, step as cube_step}
use Rattle.cube.specs.declared.pair.Connectedness.{Connectedness}
use Rattle.cube.proofs.Listed.{found}
use Rattle.surface.specs.Places.{Solids, voxel_at, kinds_at}
use Rattle.surface.specs.Joined.{Spans, Within, Connected, Joined, one, step}
use Rattle.surface.specs.Placing.{JoinedIn}
use Rattle.surface.proofs.Ends.{apart_at}
use Rattle.surface.proofs.KindsAt.{kind_at}

-- A coordinate of a voxel of a cube is one of two.
pub either_of : (low a : ℕ) → Spans low a → (a ≡ low) ⊎ (a ≡ suc low)
either_of low a h = ⊎_elim (λ e. inl (sym e)) (λ l. inr (second l)) (eq-or-lt_of_le h.0)
  where
    second : low < a → a ≡ suc low
    second l = omega (arith, h.1)

-- Its voxel with a number.
abbrev Numbered : Voxel → Voxel → Type 0
Numbered low v = (i : ℕ) × In i voxels × (v ≡ voxel_at low i)

module _ (low v : Voxel) where
  number : (i : ℕ) → T (list_any (eqb i) voxels) → (v.x ≡ (voxel_at low i).x) × (v.y ≡ (voxel_at low i).y) × (v.z ≡ (voxel_at low i).z)
      → Numbered low v
  number i t e = (i, found eqb eqb→eq i voxels t, voxel_same v (voxel_at low i) e)

  voxel_in : Within low v → Numbered low v
  voxel_in h =
      ⊎_elim
      (λ x. ⊎_elim
      (λ y. ⊎_elim (λ z. number 0 tt (x, y, z)) (λ z. number 4 tt (x, y, z)) (either_of low.z v.z h.2))
      (λ y. ⊎_elim (λ z. number 2 tt (x, y, z)) (λ z. number 6 tt (x, y, z)) (either_of low.z v.z h.2))
      (either_of low.y v.y h.1))
      (λ x. ⊎_elim
      (λ y. ⊎_elim (λ z. number 1 tt (x, y, z)) (λ z. number 5 tt (x, y, z)) (either_of low.z v.z h.2))
      (λ y. ⊎_elim (λ z. number 3 tt (x, y, z)) (λ z. number 7 tt (x, y, z)) (either_of low.z v.z h.2))
      (either_of low.y v.y h.1))
      (either_of low.x v.x h.0)

module _ (c : Connectedness) (solid : Solids) (low : Voxel) where
  connected_in : (i j : ℕ) → Connected c (voxel_at low i) (voxel_at low j) → CubeConnected c i j
  connected_in i j h = (subst (λ n. 1 ≤ n) (apart_at low i j) h.different, subst (λ n. n ≤ reach c) (apart_at low i j) h.few)

  kind_in : (v : Voxel) (r : Numbered low v) → T (solid v) → T (solid_in (kinds_at solid low) r.0)
  kind_in v r t = subst T (ap solid r.2 ∙ sym (kind_at solid low r.0 r.1)) t

  pub joined_in : {a b : Voxel} → Joined c solid low a b → JoinedIn c solid low a b
  joined_in {a} (one w t) =
      let r = voxel_in low a w in
      record { from = r.0; to = r.0; first = r.1; last = r.1; starts = r.2; ends = r.2; joined = cube_one (kind_in a r t) }
  joined_in {a} (step {b} {d} j h w t) =
      let k = joined_in j in
      let r = voxel_in low d w in
      let near = subst (λ v. Connected c v (voxel_at low r.0)) k.ends (subst (Connected c b) r.2 h) in
      record {
        from = k.from;
        to = r.0;
        first = k.first;
        last = r.1;
        starts = k.starts;
        ends = r.2;
        joined = cube_step k.joined (connected_in k.to r.0 near) (kind_in d r t);
      }
