-- What is reached by spreading marks is just what is joined. Assumes nothing.
use Rattle.std.proofs.Common.{◌≡◌, ℕ, zero, suc, Bool, false, T, eqb, leb, List, map, get_or, sym, subst, ⊎_elim, eqb→eq, leb→le, ◌&&◌}
use Rattle.cube.specs.Cube.{Kinds, solid, voxels}
use Rattle.cube.specs.Pairs.{Connected, apart, reach}
use Rattle.cube.specs.Joined.{Joined, one, step, connected, touching, touches, taken, spread, spread_times, begun, seed, reached}
use Rattle.cube.specs.declared.pair.Connectedness.{Connectedness}
use Rattle.std.proofs.Math.Facts.{or_yes}
use Rattle.cube.proofs.Listed.{and_left, and_right, some_at}

-- A mark at voxel i of a list made voxel by voxel.
pub at_voxel : (f : ℕ → Bool) (i : ℕ) → T (get_or (map f voxels) i false) → T (f i)
at_voxel f zero t = t
at_voxel f (suc zero) t = t
at_voxel f (suc (suc zero)) t = t
at_voxel f (suc (suc (suc zero))) t = t
at_voxel f (suc (suc (suc (suc zero)))) t = t
at_voxel f (suc (suc (suc (suc (suc zero))))) t = t
at_voxel f (suc (suc (suc (suc (suc (suc zero)))))) t = t
at_voxel f (suc (suc (suc (suc (suc (suc (suc zero))))))) t = t
at_voxel f (suc (suc (suc (suc (suc (suc (suc (suc i)))))))) t = absurd t

pub connected_is : (c : Connectedness) (i j : ℕ) → T (connected c i j) → Connected c i j
connected_is c i j t = (
  leb→le 1 (apart i j) (and_left (leb 1 (apart i j)) (leb (apart i j) (reach c)) t),
  leb→le (apart i j) (reach c) (and_right (leb 1 (apart i j)) (leb (apart i j) (reach c)) t),
)

module _ (c : Connectedness) (k : Kinds) (a : ℕ) where
  -- Every marked voxel is joined to a.
  abbrev Sure : List Bool → Type 0
  Sure marked = (i : ℕ) → T (get_or marked i false) → Joined c k a i

  sure_seed : Sure (seed k a)
  sure_seed i t =
      let u = at_voxel (begun k a) i t in
      let e : i ≡ a = eqb→eq i a (and_left (eqb i a) (solid k i) u) in
      let s : T (solid k i) = and_right (eqb i a) (solid k i) u in
      subst (Joined c k a) (sym e) (one (subst (λ j. T (solid k j)) e s))

  touched : (marked : List Bool) → Sure marked → (i : ℕ) → T (solid k i) → T (touches c marked i) → Joined c k a i
  touched marked sure i s t =
      let r = some_at (touching c marked i) voxels t in
      let m = and_left (get_or marked r.0 false) (connected c r.0 i) r.2 in
      let n = and_right (get_or marked r.0 false) (connected c r.0 i) r.2 in
      step (sure r.0 m) (connected_is c r.0 i n) s

  sure_spread : (marked : List Bool) → Sure marked → Sure (spread c k marked)
  sure_spread marked sure i t =
      ⊎_elim (sure i)
      (λ h. touched marked sure i (and_left (solid k i) (touches c marked i) h) (and_right (solid k i) (touches c marked i) h))
      (or_yes (get_or marked i false) (solid k i && touches c marked i) (at_voxel (taken c k marked) i t))

  sure_times : (n : ℕ) (marked : List Bool) → Sure marked → Sure (spread_times n c k marked)
  sure_times zero marked sure = sure
  sure_times (suc n) marked sure = sure_times n (spread c k marked) (sure_spread marked sure)

  pub reached_joined : (b : ℕ) → T (get_or (reached c k a) b false) → Joined c k a b
  reached_joined = sure_times 7 (seed k a) sure_seed
