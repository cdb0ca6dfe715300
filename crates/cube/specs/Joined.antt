-- Which voxels of a cube are joined. Assumes nothing.
use Rattle.std.specs.Prelude.{ℕ, zero, suc, Bool, false, T, leb, List, map, ◌==◌, nat_le, slice_index_or, ◌&&◌, ◌||◌}
use Rattle.std.specs.List.{list_any}
use Rattle.cube.specs.Cube.{Kinds, solid, voxels}
use Rattle.cube.specs.Pairs.{Connected, apart, reach}
use Rattle.cube.specs.declared.pair.Connectedness.{Connectedness}

-- Two solid voxels are joined when they are one, or when steps between connected solid voxels lead from one to the other.
pub data Joined (c : Connectedness) (k : Kinds) (a : ℕ) : ℕ → Type 0 where
  one : T (solid k a) → Joined c k a a
  step : {b d : ℕ} → Joined c k a b → Connected c b d → T (solid k d) → Joined c k a d

-- The test of connectedness.
abbrev pub connected : Connectedness → ℕ → ℕ → Bool
connected c i j = nat_le 1 (apart i j) && leb (apart i j) (reach c)

-- Voxel j is marked and connected to voxel i; some voxel is.
abbrev pub touching : Connectedness → List Bool → ℕ → ℕ → Bool
touching c marked i j = slice_index_or marked j false && connected c j i

abbrev pub touches : Connectedness → List Bool → ℕ → Bool
touches c marked i = list_any (touching c marked i) voxels

-- Voxel i is marked, or it is solid and connected to one that is.
abbrev pub taken : Connectedness → Kinds → List Bool → ℕ → Bool
taken c k marked i =
    slice_index_or marked i false || (solid k i && touches c marked i)

-- The marks after one step more, and after n.
abbrev pub spread : Connectedness → Kinds → List Bool → List Bool
spread c k marked = map (taken c k marked) voxels

abbrev pub spread_times : ℕ → Connectedness → Kinds → List Bool → List Bool
spread_times zero c k marked = marked
spread_times (suc n) c k marked = spread_times n c k (spread c k marked)

-- The mark on voxel a alone, where it is solid.
abbrev pub begun : Kinds → ℕ → ℕ → Bool
begun k a i = i == a && solid k i

abbrev pub seed : Kinds → ℕ → List Bool
seed k a = map (begun k a) voxels

-- Whatever is reached in a cube is reached in seven steps.
abbrev pub reached : Connectedness → Kinds → ℕ → List Bool
reached c k a = spread_times 7 c k (seed k a)
