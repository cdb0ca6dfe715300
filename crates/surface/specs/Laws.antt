-- What holds of the triangles of the first n cubes, for every scan, every pair and every n. Assumes nothing.
use Rattle.std.specs.Prelude.{◌≡◌, [], ◌++◌, map, ℕ, suc, ◌≤◌, ◌<◌, T}
use Rattle.grid.specs.Links.{Links, link_number_of}
use Rattle.grid.specs.Cubes.{Low, cube_count, cube_number}
use Rattle.grid.specs.declared.link.Link.{Link}
use Rattle.grid.specs.declared.sides.Sides.{Sides}
use Rattle.grid.specs.declared.voxel.Voxel.{Voxel}
use Rattle.cube.specs.Lists.{In, Distinct}
use Rattle.cube.specs.Cube.{link_numbers}
use Rattle.cube.specs.Pairs.{of_solid, of_hollow, swap}
use Rattle.cube.specs.declared.pair.Pair.{Pair}
use Rattle.surface.specs.Places.{Solids, link_at, low_of}
use Rattle.surface.specs.Laid.{Triangle, laid_at, laid, edges, corners, turn_over}
use Rattle.surface.specs.Joined.{hollow_of, Joined, solid_end, hollow_end, crosses}

-- A law of the triangles of the first n cubes, for every scan, every pair and every n up to the number of cubes.
abbrev pub Always : (Sides → Pair → Solids → ℕ → Type 0) → Type 0
Always Law = (s : Sides) (p : Pair) (solid : Solids) (n : ℕ) → n ≤ cube_count s → Law s p solid n

-- Three different link numbers, as a scan can have them.
pub record Sound (t : Triangle) : Type 0 where
  pub below : (t.0 < 50331648) × (t.1 < 50331648) × (t.2 < 50331648)
  pub different : (t.0 ≡ t.1 → ⊥) × (t.1 ≡ t.2 → ⊥) × (t.2 ≡ t.0 → ⊥)

-- The triangles are laid by the rules: nothing before the first cube, and each cube's after those of the cubes before it.
-- The cubes come by their numbers, and each triangle has three different link numbers.
pub record RuleTrue (s : Sides) (p : Pair) (solid : Solids) (n : ℕ) : Type 0 where
  pub low : (c : ℕ) → c < n → Low s (low_of s c)
  pub number : (c : ℕ) → c < n → cube_number s (low_of s c) ≡ c
  pub none : laid s p solid 0 ≡ []
  pub next : (c : ℕ) → c < n → laid s p solid (suc c) ≡ laid s p solid c ++ laid_at s p solid (low_of s c)
  pub sound : (t : Triangle) → In t (laid s p solid n) → Sound t

abbrev pub LaidByRule : Type 0
LaidByRule = Always RuleTrue

-- With solid and hollow exchanged and the pair swapped, the same triangles come in the same order, turned over.
abbrev pub Mirrored : Type 0
Mirrored =
    (s : Sides) (p : Pair) (solid : Solids) (n : ℕ)
    → laid s (swap p) (hollow_of solid) n ≡ map turn_over (laid s p solid n)

-- A link belongs to one of the first n cubes.
pub record OfDrawnCube (s : Sides) (n : ℕ) (k : Link) : Type 0 where
  pub cube : ℕ
  pub drawn : cube < n
  pub link : In k (map (link_at (low_of s cube)) link_numbers)

-- Every link of a drawn cube between a solid and a hollow voxel is a corner of a laid triangle. Every corner is a link
-- of the scan, and no other link is a corner.
pub record Cornered (s : Sides) (p : Pair) (solid : Solids) (n : ℕ) : Type 0 where
  pub every : (k : Link) → OfDrawnCube s n k → T (crosses solid k) → In (link_number_of s k) (corners (laid s p solid n))
  pub links : (m : ℕ) → In m (corners (laid s p solid n)) → (k : Link) × Links s k × (m ≡ link_number_of s k)
  pub only : (k : Link) → Links s k → In (link_number_of s k) (corners (laid s p solid n)) → OfDrawnCube s n k × T (crosses solid k)

abbrev pub AllCornered : Type 0
AllCornered = Always Cornered

-- The ends of an edge's two links are joined in a cube: the solid ends by steps of the solid's connectedness through
-- solid voxels of the cube, the hollow ends by steps of the hollow's through hollow ones.
pub record EndsJoined (s : Sides) (p : Pair) (solid : Solids) (low : Voxel) (e : ℕ × ℕ) : Type 0 where
  pub from : Link
  pub to : Link
  pub of_scan : Links s from × Links s to
  pub numbers : e ≡ (link_number_of s from, link_number_of s to)
  pub solid_ends : Joined (of_solid p) solid low (solid_end solid from) (solid_end solid to)
  pub hollow_ends : Joined (of_hollow p) (hollow_of solid) low (hollow_end solid from) (hollow_end solid to)

-- Each laid edge is laid by a drawn cube, and in a cube that lays it the ends of its links are joined.
pub record Joining (s : Sides) (p : Pair) (solid : Solids) (n : ℕ) : Type 0 where
  pub laid_by : (e : ℕ × ℕ) → In e (edges (laid s p solid n)) → (c : ℕ) × (c < n) × In e (edges (laid_at s p solid (low_of s c)))
  pub joined : (c : ℕ) → c < n → (e : ℕ × ℕ) → In e (edges (laid_at s p solid (low_of s c))) → EndsJoined s p solid (low_of s c) e

abbrev pub AllJoined : Type 0
AllJoined = Always Joining

-- No directed edge is laid twice.
abbrev pub LaidOnce : Type 0
LaidOnce = Always (λ s p solid n. Distinct (edges (laid s p solid n)))
