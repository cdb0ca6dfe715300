-- Axes, links and their numbers, by the sides of a scan. Assumes nothing.
use Rattle.std.specs.Prelude.{◌≡◌, ℕ, ◌+◌, ◌*◌, ◌<◌, ◌≤◌, ◌≢◌, Result, MatchResult}
use Rattle.grid.specs.Numbers.{link_number}
use Rattle.grid.specs.Voxels.{Holds, count_of}
use Rattle.grid.specs.declared.axis.Axis.{Axis}
use Rattle.grid.specs.declared.axis.Axis.TheVariants.{X, Y, Z}
use Rattle.grid.specs.declared.axis.NoAxis.{NoAxis}
use Rattle.grid.specs.declared.link.Link.{Link}
use Rattle.grid.specs.declared.sides.Sides.{Sides}
use Rattle.grid.specs.declared.voxel.Voxel.{Voxel}

-- The axes in order.
abbrev pub axis_number : Axis → ℕ
axis_number X = 0
axis_number Y = 1
axis_number Z = 2

-- A number leads to the axis that has it; from 3 on it leads to none, and the error tells it.
abbrev pub NamesAxis : ℕ → Result Axis NoAxis → Type 0
NamesAxis n r = MatchResult r (λ a. axis_number a ≡ n) (λ e. (3 ≤ n) × (e.0 ≡ n))

-- The coordinate along an axis.
abbrev pub along : Axis → Voxel → ℕ
along X v = v.x
along Y v = v.y
along Z v = v.z

-- The voxel one further along an axis.
abbrev pub next : Axis → Voxel → Voxel
next X v = record { x = v.x + 1; y = v.y; z = v.z }
next Y v = record { x = v.x; y = v.y + 1; z = v.z }
next Z v = record { x = v.x; y = v.y; z = v.z + 1 }

-- The upper end of a link is one further along its axis than the lower end.
abbrev pub upper_of : Link → Voxel
upper_of k = next k.axis k.lower

-- A link belongs to a scan that holds both of its ends.
abbrev pub Links : Sides → Link → Type 0
Links s k = Holds s k.lower × Holds s (upper_of k)

-- The number of a link: three for each voxel before its lower end, and its axis.
abbrev pub link_number_of : Sides → Link → ℕ
link_number_of s k = link_number s.x s.y k.lower.x k.lower.y k.lower.z (axis_number k.axis)

-- A link of the scan has its own number: it is in range, and no other link of the scan has it.
pub record LinkNumbered (s : Sides) (k : Link) (n : ℕ) : Type 0 where
  pub links : Links s k
  pub number : n ≡ link_number_of s k
  pub below : n < 3 * count_of s
  pub bound : n < 50331648
  pub only : (j : Link) → Links s j → link_number_of s j ≡ n → j ≡ k

-- A number names no link of the scan.
abbrev pub NoLink : Sides → ℕ → Type 0
NoLink s n = (k : Link) → Links s k → link_number_of s k ≢ n
