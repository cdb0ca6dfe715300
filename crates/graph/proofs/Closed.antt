-- Seven steps reach everything that is joined. Assumes nothing.
use Rattle.std.proofs.Common.{ℕ, Bool, true, false, T, leb, List, get_or, le→leb, ◌&&◌}
use Rattle.std.specs.List.{list_all}
use Rattle.std.proofs.Math.Facts.{yes_and}
use Rattle.cube.specs.Cube.{Kinds, solid, voxels}
use Rattle.cube.specs.Pairs.{Connected, apart, reach}
use Rattle.cube.specs.Joined.{Joined, one, step, connected, reached}
use Rattle.cube.specs.declared.pair.Connectedness.{Connectedness}
use Rattle.cube.proofs.Listed.{when, every_at, and_left, and_right}
use Rattle.cube.specs.Everywhere.{all_kinds, each}
use Rattle.cube.proofs.Everywhere.{everywhere_each}
use Rattle.cube.proofs.Voxels.{solid_voxel}

-- Marks are closed at b: where b is marked, so is each solid voxel d that is connected to it.
abbrev passes_on : Connectedness → Kinds → List Bool → ℕ → ℕ → Bool
passes_on c k marked b d =
    elim (solid k d) [ true ↦ elim (connected c b d) [ true ↦ get_or marked d false | false ↦ true ] | false ↦ true ]

abbrev closed_at : Connectedness → Kinds → List Bool → ℕ → Bool
closed_at c k marked b = elim (get_or marked b false) [ true ↦ list_all (passes_on c k marked b) voxels | false ↦ true ]

-- What is reached from a solid voxel holds it, and is closed at every voxel.
abbrev full : Connectedness → Kinds → ℕ → List Bool → Bool
full c k a marked = get_or marked a false && list_all (closed_at c k marked) voxels

abbrev full_from : Connectedness → Kinds → ℕ → Bool
full_from c k a = elim (solid k a) [ true ↦ full c k a (reached c k a) | false ↦ true ]

abbrev all_full : Connectedness → Kinds → Bool
all_full c k = list_all (full_from c k) voxels

always_full : T (all_kinds λ k. each λ c. all_full c k)
always_full = tt

is_connected : (c : Connectedness) (i j : ℕ) → Connected c i j → T (connected c i j)
is_connected c i j h =
    yes_and (leb 1 (apart i j)) (leb (apart i j) (reach c)) (le→leb 1 (apart i j) h.0) (le→leb (apart i j) (reach c) h.1)

module _ (c : Connectedness) (k : Kinds) (a : ℕ) where
  pub starts : {b : ℕ} → Joined c k a b → T (solid k a)
  starts (one t) = t
  starts (step j h t) = starts j

  pub ends : {b : ℕ} → Joined c k a b → T (solid k b)
  ends (one t) = t
  ends (step j h t) = t

  is_full : T (solid k a) → T (full c k a (reached c k a))
  is_full t =
      when (solid k a) (full c k a (reached c k a))
      (every_at (full_from c k) voxels (everywhere_each all_full always_full c k) a (solid_voxel k a t)) t

  pub joined_reached : {b : ℕ} → Joined c k a b → T (get_or (reached c k a) b false)
  joined_reached (one t) = and_left (get_or (reached c k a) a false) (list_all (closed_at c k (reached c k a)) voxels) (is_full t)
  joined_reached (step {b} {d} j h t) =
      let marked = reached c k a in
      let closed = and_right (get_or marked a false) (list_all (closed_at c k marked) voxels) (is_full (starts j)) in
      let at_b = every_at (closed_at c k marked) voxels closed b (solid_voxel k b (ends j)) in
      let from-b = when (get_or marked b false) (list_all (passes_on c k marked b) voxels) at_b (joined_reached j) in
      let at-d = every_at (passes_on c k marked b) voxels from-b d (solid_voxel k d t) in
      when (connected c b d) (get_or marked d false)
      (when (solid k d) (elim (connected c b d) [ true ↦ get_or marked d false | false ↦ true ]) at-d t) (is_connected c b d h)
