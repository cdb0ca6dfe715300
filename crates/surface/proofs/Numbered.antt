-- The cubes of a scan by their numbers, and their links by theirs. Assumes nothing.
use mathlib.Core.Path.{◌≡◌, refl, sym, ap, subst, ◌∙◌}
use Prim.Native.Nat.{ℕ, zero, suc, ◌+◌, ◌-◌, ◌≤◌, ◌<◌}
use native.Mathlib.Numerals.{add-one}
use native.Mathlib.Omega.{arith}
use Rattle.grid.specs.Voxels.{Holds}
use Rattle.grid.specs.Links.{Links, next, upper_of}
use Rattle.grid.specs.Cubes.{Low, cube_count, cube_number}
use Rattle.grid.specs.declared.axis.Axis.{Axis}
use Rattle.grid.specs.declared.axis.Axis.TheVariants.{X, Y, Z}
use Rattle.grid.specs.declared.sides.Sides.{Sides}
use Rattle.grid.specs.declared.voxel.Voxel.{Voxel}
use Rattle.grid.proofs.Numbering.{place_back}
use Rattle.grid.proofs.Numbered.{inside_low, cube_numbered, link_unique, link_numbered}
use Rattle.cube.specs.Lists.{In}
use Rattle.cube.specs.Cube.{dx, dy, dz, lower, upper, link_numbers}
use Rattle.surface.specs.Places.{onward, voxel_at, link_at, number_at, low_of}
use Rattle.surface.specs.Joined.{Within}
use Rattle.surface.proofs.Membership.{all_at}

-- A coordinate of a voxel of a cube is that of the low voxel or the next.
pub onward_least : (d x : ℕ) → x ≤ onward d x
onward_least zero x = omega arith
onward_least (suc d) x = omega arith

pub onward_most : (d x : ℕ) → onward d x ≤ suc x
onward_most zero x = omega arith
onward_most (suc d) x = omega arith

-- The voxels of a cube lie within it.
pub within_at : (u : Voxel) (i : ℕ) → Within u (voxel_at u i)
within_at u i = (
  (onward_least (dx i) u.x, onward_most (dx i) u.x),
  (onward_least (dy i) u.y, onward_most (dy i) u.y),
  (onward_least (dz i) u.z, onward_most (dz i) u.z),
)

-- The voxel one further along an axis, with the next coordinate written as a successor.
abbrev pub after : Axis → Voxel → Voxel
after X v = record { x = suc v.x; y = v.y; z = v.z }
after Y v = record { x = v.x; y = suc v.y; z = v.z }
after Z v = record { x = v.x; y = v.y; z = suc v.z }

pub after_next : (a : Axis) (v : Voxel) → after a v ≡ next a v
after_next X v i = record { x = sym (add-one v.x) i; y = v.y; z = v.z }
after_next Y v i = record { x = v.x; y = sym (add-one v.y) i; z = v.z }
after_next Z v i = record { x = v.x; y = v.y; z = sym (add-one v.z) i }

-- The upper voxel of a cube's link is the upper end of the link.
pub upper_at : (u : Voxel) (l : ℕ) → In l link_numbers → voxel_at u (upper l) ≡ upper_of (link_at u l)
upper_at u =
    all_at (λ l. voxel_at u (upper l) ≡ upper_of (link_at u l)) link_numbers (
      after_next X (voxel_at u 0),
      (
        after_next X (voxel_at u 2),
        (
          after_next X (voxel_at u 4),
          (
            after_next X (voxel_at u 6),
            (
              after_next Y (voxel_at u 0),
              (
                after_next Y (voxel_at u 1),
                (
                  after_next Y (voxel_at u 4),
                  (
                    after_next Y (voxel_at u 5),
                    (
                      after_next Z (voxel_at u 0),
                      (after_next Z (voxel_at u 1), (after_next Z (voxel_at u 2), (after_next Z (voxel_at u 3), tt))),
                    ),
                  ),
                ),
              ),
            ),
          ),
        ),
      ),
    )

module _ (s : Sides) where
  -- Cube n of the scan lies at its low voxel, and has the number n.
  pub low_is : (n : ℕ) → n < cube_count s → Low s (low_of s n)
  low_is n h = inside_low s (low_of s n) (place_back (s.x - 1) (s.y - 1) (s.z - 1) n h).0

  pub low_number : (n : ℕ) → n < cube_count s → cube_number s (low_of s n) ≡ n
  low_number n h = sym (place_back (s.x - 1) (s.y - 1) (s.z - 1) n h).1

  -- Cubes with one low voxel are one.
  pub low_same : (c d : ℕ) → c < cube_count s → d < cube_count s → low_of s c ≡ low_of s d → c ≡ d
  low_same c d hc hd e = sym (low_number c hc) ∙ ap (cube_number s) e ∙ low_number d hd

  -- Each low voxel is that of the cube with its number.
  pub low_below : (v : Voxel) → Low s v → cube_number s v < cube_count s
  low_below v h = (cube_numbered s v (cube_number s v) h refl).below

  pub low_back : (v : Voxel) → Low s v → low_of s (cube_number s v) ≡ v
  low_back v h =
      let n = cube_number s v in
      let b = low_below v h in
      (cube_numbered s v n h refl).only (low_of s n) (low_is n b) (low_number n b)

  -- The voxels and the links of a cube of the scan are voxels and links of the scan.
  pub holds_at : (u : Voxel) → Low s u → (i : ℕ) → Holds s (voxel_at u i)
  holds_at u h i = (
    within (dx i) u.x s.x h.0,
    within (dy i) u.y s.y h.1,
    within (dz i) u.z s.z h.2,
  )
    where
      within : (d x n : ℕ) → x + 1 < n → onward d x < n
      within d x n b = omega (arith, onward_most d x)

  pub links_at : (u : Voxel) → Low s u → (l : ℕ) → In l link_numbers → Links s (link_at u l)
  links_at u h l i = (holds_at u h (lower l), subst (Holds s) (upper_at u l i) (holds_at u h (upper l)))

  pub number_below : (u : Voxel) → Low s u → (l : ℕ) → In l link_numbers → number_at s u l < 50331648
  number_below u h l i = (link_numbered s (link_at u l) (number_at s u l) (links_at u h l i) refl).bound

  -- Links of cubes of the scan with one number are one.
  pub number_same : (u v : Voxel) → Low s u → Low s v → (i j : ℕ) → number_at s u i ≡ number_at s v j → link_at u i ≡ link_at v j
  number_same u v hu hv i j e =
      link_unique s (link_at u i) (link_at v j) (holds_at u hu (lower i)) (holds_at v hv (lower j)) e
