-- Which voxels of a cube are joined, by their coordinates in the scan. Assumes nothing.
use Rattle.std.specs.Prelude.{Bool, true, false, not, ℕ, suc, ◌+◌, ◌≤◌, T, eqb}
use Rattle.grid.specs.Links.{upper_of}
use Rattle.grid.specs.declared.link.Link.{Link}
use Rattle.grid.specs.declared.voxel.Voxel.{Voxel}
use Rattle.cube.specs.Pairs.{differ, reach}
use Rattle.cube.specs.declared.pair.Connectedness.{Connectedness}
use Rattle.surface.specs.Places.{Solids}

-- Solid and hollow exchanged.
abbrev pub hollow_of : Solids → Solids
hollow_of solid v = not (solid v)

-- In how many coordinates two voxels differ.
abbrev pub apart : Voxel → Voxel → ℕ
apart v w = differ (eqb v.x w.x) + differ (eqb v.y w.y) + differ (eqb v.z w.z)

-- Two coordinates differ by at most 1.
abbrev pub Close : ℕ → ℕ → Type 0
Close a b = (a ≤ suc b) × (b ≤ suc a)

-- Neighbours are no more than one step apart along any axis; how many axes may be used is what the
-- connectedness says.
pub record Connected (c : Connectedness) (v w : Voxel) : Type 0 where
  pub x : Close v.x w.x
  pub y : Close v.y w.y
  pub z : Close v.z w.z
  pub different : 1 ≤ apart v w
  pub few : apart v w ≤ reach c

-- A coordinate is that of a low voxel, or the next.
abbrev pub Spans : ℕ → ℕ → Type 0
Spans low a = (low ≤ a) × (a ≤ suc low)

-- A voxel is one of the eight of the cube with a low voxel.
abbrev pub Within : Voxel → Voxel → Type 0
Within low v = Spans low.x v.x × Spans low.y v.y × Spans low.z v.z

-- Two solid voxels of a cube are joined in it when they are one, or when steps between connected solid voxels
-- of the cube lead from one to the other.
pub data Joined (c : Connectedness) (solid : Solids) (low a : Voxel) : Voxel → Type 0 where
  one : Within low a → T (solid a) → Joined c solid low a a
  step : {b d : Voxel} → Joined c solid low a b → Connected c b d → Within low d → T (solid d) → Joined c solid low a d

-- The solid and the hollow end of a link between a solid and a hollow voxel.
abbrev pub solid_end : Solids → Link → Voxel
solid_end solid k = elim (solid k.lower) [ true ↦ k.lower | false ↦ upper_of k ]

abbrev pub hollow_end : Solids → Link → Voxel
hollow_end solid k = elim (solid k.lower) [ true ↦ upper_of k | false ↦ k.lower ]

-- A link joins a solid and a hollow voxel.
abbrev pub crosses : Solids → Link → Bool
crosses solid k = elim (solid k.lower) [ true ↦ not (solid (upper_of k)) | false ↦ solid (upper_of k) ]
