-- Each voxel, link and cube of a scan has its own number. Assumes nothing.
use Rattle.std.proofs.Common.{◌≡◌, ℕ, ◌-◌, ◌*◌, ◌/◌, ◌<◌, ◌≤◌, Bool, true, false, Some, None, Option, sym, ap, ◌∙◌, subst, arith, MatchBool, MatchOption}
use Rattle.std.specs.Bool.{then_some}
use Rattle.grid.specs.Numbers.{Inside}
use Rattle.grid.specs.Voxels.{Holds, VoxelNumbered, number_of, count_of}
use Rattle.grid.specs.Borders.{FirstOnBorder, NoneOnBorder}
use Rattle.grid.specs.Cubes.{Low, CubeNumbered, cube_number, cube_count}
use Rattle.grid.specs.Links.{Links, LinkNumbered, NoLink, axis_number, link_number_of}
use Rattle.grid.specs.declared.axis.Axis.{Axis}
use Rattle.grid.specs.declared.axis.Axis.TheVariants.{X, Y, Z}
use Rattle.grid.specs.declared.link.Link.{Link}
use Rattle.grid.specs.declared.sides.Sides.{Sides}
use Rattle.grid.specs.declared.voxel.Voxel.{Voxel}
use Rattle.grid.proofs.Same.{axis_same, voxel_same}
use Rattle.grid.proofs.Numbering.{count_bound, place_below, place_same, link_below, link_same}

-- what is said of an option, made weaker
pub some_weaker : {X : Type 0} (o : Option X) {P P' : Type 0} {Q Q' : X → Type 0} → MatchOption o P Q → (P → P') → ((x : X) → Q x → Q' x) → MatchOption o P' Q'
some_weaker None c p q = p c
some_weaker (Some x) c p q = q x c

pub count_within : (s : Sides) → count_of s ≤ 16777216
count_within s = count_bound s.x s.y s.z s.fits.0.1 s.fits.1.1 s.fits.2.1

pub voxel_numbered : (s : Sides) (v : Voxel) (n : ℕ) → Holds s v → n ≡ number_of s v → VoxelNumbered s v n
voxel_numbered s v n h e =
    let below : n < count_of s = rw e (place_below s.x s.y s.z v.x v.y v.z h) in
    let most = count_within s in
    record {
      holds = h;
      number = e;
      below = below;
      bound = omega arith;
      only = λ w k q. voxel_same w v (place_same s.x s.y s.z w.x w.y w.z v.x v.y v.z k h (q ∙ e));
    }

-- a cube lies inside the sides less one
pub low_inside : (s : Sides) (v : Voxel) → Low s v → Inside (s.x - 1) (s.y - 1) (s.z - 1) v.x v.y v.z
low_inside s v h = (omega arith, omega arith, omega arith)

pub inside_low : (s : Sides) (v : Voxel) → Inside (s.x - 1) (s.y - 1) (s.z - 1) v.x v.y v.z → Low s v
inside_low s v h = (omega arith, omega arith, omega arith)

pub cube_numbered : (s : Sides) (v : Voxel) (n : ℕ) → Low s v → n ≡ cube_number s v → CubeNumbered s v n
cube_numbered s v n h e =
    let i = low_inside s v h in
    let below : n < cube_count s = rw e (place_below (s.x - 1) (s.y - 1) (s.z - 1) v.x v.y v.z i) in
    let most : cube_count s ≤ 16777216 = count_bound (s.x - 1) (s.y - 1) (s.z - 1) (omega arith) (omega arith) (omega arith) in
    record {
      low = h;
      number = e;
      below = below;
      bound = omega arith;
      only =
          λ w k q. voxel_same w v
          (place_same (s.x - 1) (s.y - 1) (s.z - 1) w.x w.y w.z v.x v.y v.z (low_inside s w k) i (q ∙ e));
    }

pub axis_below : (a : Axis) → axis_number a < 3
axis_below X = omega arith
axis_below Y = omega arith
axis_below Z = omega arith

-- links of a scan with the same number are one
pub link_unique : (s : Sides) (j k : Link) → Holds s j.lower → Holds s k.lower → link_number_of s j ≡ link_number_of s k → j ≡ k
link_unique s j k hj hk e =
    let same = link_same s.x s.y s.z j.lower.x j.lower.y j.lower.z (axis_number j.axis) k.lower.x k.lower.y k.lower.z (axis_number k.axis) hj hk (axis_below j.axis) (axis_below k.axis) e in
    let of : Voxel → Axis → Link = λ v a. record { lower = v; axis = a } in
    ap (λ v. of v j.axis) (voxel_same j.lower k.lower (same.0, same.1, same.2))
    ∙ ap (of k.lower) (axis_same j.axis k.axis same.3)

pub link_numbered : (s : Sides) (k : Link) (n : ℕ) → Links s k → n ≡ link_number_of s k → LinkNumbered s k n
link_numbered s k n h e =
    let lower = place_below s.x s.y s.z k.lower.x k.lower.y k.lower.z h.0 in
    let below : n < 3 * count_of s = rw e (link_below (number_of s k.lower) (axis_number k.axis) (count_of s) lower (axis_below k.axis)) in
    let most = count_within s in
    record {
      links = h;
      number = e;
      below = below;
      bound = omega arith;
      only = λ j hj q. link_unique s j k hj.0 h.0 (q ∙ e);
    }

-- a number three times the count or more names no link
pub no_link_above : (s : Sides) (n : ℕ) → count_of s ≤ n / 3 → NoLink s n
no_link_above s n h k links e =
    let lower = place_below s.x s.y s.z k.lower.x k.lower.y k.lower.z links.0 in
    let above = axis_below k.axis in
    omega arith

-- a number whose lower voxel has no neighbour along the axis names no link
pub no_link_beyond : (s : Sides) (k : Link) (n : ℕ) → Holds s k.lower → link_number_of s k ≡ n → (Links s k → ⊥) → NoLink s n
no_link_beyond s k n h e none j links q =
    none (subst (Links s) (link_unique s j k links.0 h (q ∙ sym e)) links)

-- a link with the number is told where the scan holds it, and no other has the number
pub link_told : (s : Sides) (k : Link) (n : ℕ) (b : Bool) → MatchBool b (Links s k) (Links s k → ⊥) → Holds s k.lower → link_number_of s k ≡ n
    → MatchOption (then_some b k) (NoLink s n) (λ j. LinkNumbered s j n)
link_told s k n true held h e = link_numbered s k n held (sym e)
link_told s k n false none h e = no_link_beyond s k n h e none

-- what the answers at the voxels of a border are, made weaker
pub border_weaker : {T : Type 0} (s : Sides) (o : Option T) {P Q : Voxel → Option T → Type 0} → MatchOption o (NoneOnBorder s P) (FirstOnBorder s P)
    → ((v : Voxel) (r : Option T) → P v r → Q v r) → MatchOption o (NoneOnBorder s Q) (FirstOnBorder s Q)
border_weaker s None none weaker = λ v border. weaker v None (none v border)
border_weaker s (Some x) first weaker = record {
  voxel = first.voxel;
  border = first.border;
  answer = weaker first.voxel (Some x) first.answer;
  before = λ w border below. weaker w None (first.before w border below);
}
