-- Where a surface is open: on the faces between drawn and undrawn cubes, and nowhere else. Assumes nothing.
use Rattle.std.specs.Prelude.{◌≡◌, ◌⊎◌, Bool, not, List, ℕ, ◌≤◌, ◌<◌, T}
use Rattle.std.specs.List.{list_any}
use Rattle.grid.specs.Voxels.{OnBorder}
use Rattle.grid.specs.Links.{next}
use Rattle.grid.specs.Cubes.{cube_count}
use Rattle.grid.specs.declared.axis.Axis.{Axis}
use Rattle.grid.specs.declared.sides.Sides.{Sides}
use Rattle.grid.specs.declared.voxel.Voxel.{Voxel}
use Rattle.cube.specs.Lists.{In, same}
use Rattle.cube.specs.declared.pair.Pair.{Pair}
use Rattle.surface.specs.Places.{Solids, links_of, low_of}
use Rattle.surface.specs.Laid.{laid, edges, back}
use Rattle.surface.specs.Laws.{Always}

-- The voxels on the border are of one kind.
abbrev pub OneBorder : Sides → Solids → Type 0
OneBorder s solid = (kind : Bool) × ((v : Voxel) → OnBorder s v → solid v ≡ kind)

-- Two cubes share a face when one lies one further than the other along an axis.
abbrev pub Beside : Voxel → Voxel → Type 0
Beside u v = ((a : Axis) × (v ≡ next a u)) ⊎ ((a : Axis) × (u ≡ next a v))

-- Both links of an edge are links of the cube with a low voxel.
abbrev pub On : Sides → Voxel → ℕ × ℕ → Type 0
On s low e = In e.0 (links_of s low) × In e.1 (links_of s low)

-- An edge lies on the face between two cubes: its links join voxels of that face, so they are links of both cubes.
pub record Between (s : Sides) (u v : Voxel) (e : ℕ × ℕ) : Type 0 where
  pub beside : Beside u v
  pub first : On s u e
  pub second : On s v e

-- The front: faces with a drawn cube on one side and an undrawn one on the other.
pub record OnFront (s : Sides) (n : ℕ) (e : ℕ × ℕ) : Type 0 where
  pub drawn : ℕ
  pub undrawn : ℕ
  pub before : drawn < n
  pub after : n ≤ undrawn
  pub cube : undrawn < cube_count s
  pub between : Between s (low_of s drawn) (low_of s undrawn) e

-- An edge stands among others, as a test.
abbrev pub among : List (ℕ × ℕ) → ℕ × ℕ → Bool
among es e = list_any (same e) es

-- Of the laid edges, just those on the front of what is drawn lack their reverse.
pub record Fronted (s : Sides) (p : Pair) (solid : Solids) (n : ℕ) : Type 0 where
  pub missing : (e : ℕ × ℕ) → In e (edges (laid s p solid n)) → T (not (among (edges (laid s p solid n)) (back e))) → OnFront s n e
  pub front : (e : ℕ × ℕ) → In e (edges (laid s p solid n)) → OnFront s n e → T (not (among (edges (laid s p solid n)) (back e)))

abbrev pub OpenAtFront : Type 0
OpenAtFront = Always (λ s p solid n. OneBorder s solid → Fronted s p solid n)

-- When all cubes are drawn, every laid edge is laid the other way too.
abbrev pub Closed : Type 0
Closed =
    (s : Sides) (p : Pair) (solid : Solids) → OneBorder s solid
    → (e : ℕ × ℕ) → In e (edges (laid s p solid (cube_count s))) → In (back e) (edges (laid s p solid (cube_count s)))
