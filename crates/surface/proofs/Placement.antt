-- The voxels and the links of a cube lie where its low voxel says. Assumes nothing.
use mathlib.Core.Path.{◌≡◌, refl, sym, subst}
use mathlib.Core.Logic.{⊎_elim}
use mathlib.Core.List.{map}
use Prim.Native.Nat.{ℕ, zero, suc, ◌+◌, ◌<◌}
use native.Mathlib.Omega.{arith}
use lib.Dec.{T, eqb, eqb→eq}
use Rattle.std.specs.List.{list_any}
use Rattle.grid.specs.Links.{upper_of}
use Rattle.grid.specs.declared.axis.Axis.{Axis}
use Rattle.grid.specs.declared.axis.Axis.TheVariants.{X, Y, Z}
use Rattle.grid.specs.declared.link.Link.{Link}
use Rattle.grid.specs.declared.voxel.Voxel.{Voxel}
use Rattle.grid.proofs.Same.{voxel_same}
use Rattle.cube.specs.Lists.{In}
use Rattle.cube.specs.Cube.{dx, dy, dz, lower, upper, link_numbers}
use Rattle.cube.proofs.Listed.{found}
use Rattle.surface.specs.Places.{onward, voxel_at, link_at}
use Rattle.surface.specs.Joined.{Spans, Within}
use Rattle.surface.specs.Placing.{further, AllPlaced}
use Rattle.surface.proofs.Membership.{in_map, map_in}
use Rattle.surface.proofs.Numbered.{upper_at, within_at}
use Rattle.surface.proofs.KindsAt.{kind_at}
use Rattle.surface.proofs.Rejoined.{either_of, joined_in}

-- A step of 0 or 1 is added to a coordinate.
added : (d x : ℕ) → d < 2 → onward d x ≡ x + d
added zero x h = omega arith
added (suc zero) x h = omega arith
added (suc (suc d)) x h = absurd (omega arith)

placed_at : (low : Voxel) (i : ℕ) → voxel_at low i ≡ further low (dx i) (dy i) (dz i)
placed_at low i =
    voxel_same (voxel_at low i) (further low (dx i) (dy i) (dz i)) (
      added (dx i) low.x (omega arith),
      added (dy i) low.y (omega arith),
      added (dz i) low.z (omega arith),
    )

-- A coordinate of a voxel of a cube that has the next in the cube is the first of the two.
first_of : (low a : ℕ) → Spans low a → Spans low (a + 1) → a ≡ low
first_of low a h k = omega arith

abbrev link : ℕ → ℕ → ℕ → Axis → Link
link x y z a = record { lower = record { x = x; y = y; z = z }; axis = a }

link_same : (a : Axis) {x x' y y' z z' : ℕ} → x ≡ x' → y ≡ y' → z ≡ z' → link x y z a ≡ link x' y' z' a
link_same a p q r n = link (p n) (q n) (r n) a

module _ (low : Voxel) where
  -- A link that is link l of the cube is among its links.
  put : (l : ℕ) → T (list_any (eqb l) link_numbers) → (v : Voxel) (a : Axis) → link v.x v.y v.z a ≡ link_at low l
      → In (link v.x v.y v.z a) (map (link_at low) link_numbers)
  put l t v a e =
      subst (λ j. In j (map (link_at low) link_numbers)) (sym e)
      (in_map (link_at low) l link_numbers (found eqb eqb→eq l link_numbers t))

  among_links : (v : Voxel) (a : Axis) → Within low v → Within low (upper_of (record { lower = v; axis = a }))
      → In (link v.x v.y v.z a) (map (link_at low) link_numbers)
  among_links v X h k =
      let x = first_of low.x v.x h.0 k.0 in
      ⊎_elim (λ y. ⊎_elim (λ z. put 0 tt v X (link_same X x y z)) (λ z. put 2 tt v X (link_same X x y z)) (either_of low.z v.z h.2))
      (λ y. ⊎_elim (λ z. put 1 tt v X (link_same X x y z)) (λ z. put 3 tt v X (link_same X x y z)) (either_of low.z v.z h.2))
      (either_of low.y v.y h.1)
  among_links v Y h k =
      let y = first_of low.y v.y h.1 k.1 in
      ⊎_elim (λ x. ⊎_elim (λ z. put 4 tt v Y (link_same Y x y z)) (λ z. put 6 tt v Y (link_same Y x y z)) (either_of low.z v.z h.2))
      (λ x. ⊎_elim (λ z. put 5 tt v Y (link_same Y x y z)) (λ z. put 7 tt v Y (link_same Y x y z)) (either_of low.z v.z h.2))
      (either_of low.x v.x h.0)
  among_links v Z h k =
      let z = first_of low.z v.z h.2 k.2 in
      ⊎_elim (λ x. ⊎_elim (λ y. put 8 tt v Z (link_same Z x y z)) (λ y. put 10 tt v Z (link_same Z x y z)) (either_of low.y v.y h.1))
      (λ x. ⊎_elim (λ y. put 9 tt v Z (link_same Z x y z)) (λ y. put 11 tt v Z (link_same Z x y z)) (either_of low.y v.y h.1))
      (either_of low.x v.x h.0)

  ends_within : (k : Link) → In k (map (link_at low) link_numbers) → Within low k.lower × Within low (upper_of k)
  ends_within k i =
      let r = map_in (link_at low) k link_numbers i in
      subst (λ j. Within low j.lower × Within low (upper_of j)) (sym r.2)
      (within_at low (lower r.0), subst (Within low) (upper_at low r.0 r.1) (within_at low (upper r.0)))

pub all_placed : AllPlaced
all_placed solid low =
    record {
      voxel = λ i h. placed_at low i;
      kind = kind_at solid low;
      starts = λ l i. refl;
      ends = λ l i. sym (upper_at low l i);
      within = ends_within low;
      every = λ k. among_links low k.lower k.axis;
      joined = λ c a b. joined_in c solid low;
    }
