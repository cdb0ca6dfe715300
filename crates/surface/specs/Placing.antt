-- Where the voxels and the links of a cube lie in its scan. Assumes nothing.
use Rattle.std.specs.Prelude.{◌≡◌, map, ℕ, ◌+◌}
use Rattle.grid.specs.Links.{upper_of}
use Rattle.grid.specs.declared.link.Link.{Link}
use Rattle.grid.specs.declared.voxel.Voxel.{Voxel}
use Rattle.cube.specs.Lists.{In}
use Rattle.cube.specs.Cube.{dx, dy, dz, lower, upper, voxels, link_numbers, solid as solid_in}
use Rattle.cube.specs.Joined.{Joined as CubeJoined}
use Rattle.cube.specs.declared.pair.Connectedness.{Connectedness}
use Rattle.surface.specs.Places.{Solids, voxel_at, kinds_at, link_at}
use Rattle.surface.specs.Joined.{Within, Joined}

-- A voxel by its steps from a low voxel.
abbrev pub further : Voxel → ℕ → ℕ → ℕ → Voxel
further low a b c = record { x = low.x + a; y = low.y + b; z = low.z + c }

-- Two voxels of the scan are voxels of a cube, and joined in it.
pub record JoinedIn (c : Connectedness) (solid : Solids) (low a b : Voxel) : Type 0 where
  pub from : ℕ
  pub to : ℕ
  pub first : In from voxels
  pub last : In to voxels
  pub starts : a ≡ voxel_at low from
  pub ends : b ≡ voxel_at low to
  pub joined : CubeJoined c (kinds_at solid low) from to

-- A cube is placed as its low voxel says.
pub record CubePlaced (solid : Solids) (low : Voxel) : Type 0 where
  -- Voxel i lies its steps along the axes from the low voxel, and the cube has there the kind that the scan has.
  pub voxel : (i : ℕ) → In i voxels → voxel_at low i ≡ further low (dx i) (dy i) (dz i)
  pub kind : (i : ℕ) → In i voxels → solid_in (kinds_at solid low) i ≡ solid (voxel_at low i)
  -- Link l joins the two voxels that the cube has for it.
  pub starts : (l : ℕ) → In l link_numbers → (link_at low l).lower ≡ voxel_at low (lower l)
  pub ends : (l : ℕ) → In l link_numbers → upper_of (link_at low l) ≡ voxel_at low (upper l)
  -- The links of the cube are the links between two of its voxels.
  pub within : (k : Link) → In k (map (link_at low) link_numbers) → Within low k.lower × Within low (upper_of k)
  pub every : (k : Link) → Within low k.lower → Within low (upper_of k) → In k (map (link_at low) link_numbers)
  -- Voxels of the scan are joined in the cube only where its own are.
  pub joined : (c : Connectedness) (a b : Voxel) → Joined c solid low a b → JoinedIn c solid low a b

abbrev pub AllPlaced : Type 0
AllPlaced = (solid : Solids) (low : Voxel) → CubePlaced solid low
