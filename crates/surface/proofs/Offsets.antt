-- Which links two cubes have in common, by how one cube lies to the other. Assumes nothing.
use mathlib.Core.Path.{◌≡◌, refl, sym, ap, subst}
use mathlib.Core.Bool.{Bool, true, false, ◌&&◌}
use Prim.Native.Nat.{ℕ, zero, suc}
use native.Mathlib.Omega.{arith}
use lib.Dec.{T, eqb, eqb→eq, eqb_refl}
use Rattle.std.specs.List.{list_all}
use Rattle.std.proofs.Math.Facts.{yes_and}
use Rattle.grid.specs.Links.{axis_number}
use Rattle.grid.specs.declared.voxel.Voxel.{Voxel}
use Rattle.grid.proofs.Same.{voxel_same, axis_same}
use Rattle.cube.specs.Lists.{In}
use Rattle.cube.specs.Cube.{dx, dy, dz, lower, axis, link_numbers}
use Rattle.cube.proofs.Listed.{and_left, and_right, when, every_at}
use Rattle.surface.specs.Places.{onward, voxel_at, axis_named, link_at}

-- A coordinate against another: one less, the same, one more.
pub data Off : Type 0 where
  less : Off
  level : Off
  more : Off

abbrev pub Stands : Off → ℕ → ℕ → Type 0
Stands less a b = a ≡ suc b
Stands level a b = a ≡ b
Stands more a b = b ≡ suc a

-- From a cube with a coordinate a to one with b, the steps d and e lead to the same coordinate.
abbrev pub meet : Off → ℕ → ℕ → Bool
meet less zero zero = false
meet less zero (suc e) = true
meet less (suc d) zero = false
meet less (suc d) (suc e) = false
meet level zero zero = true
meet level zero (suc e) = false
meet level (suc d) zero = false
meet level (suc d) (suc e) = true
meet more zero zero = false
meet more zero (suc e) = false
meet more (suc d) zero = true
meet more (suc d) (suc e) = false

meet_same : (o : Off) (d e a b : ℕ) → Stands o a b → T (meet o d e) → onward d a ≡ onward e b
meet_same less zero zero a b h t = absurd t
meet_same less zero (suc e) a b h t = h
meet_same less (suc d) zero a b h t = absurd t
meet_same less (suc d) (suc e) a b h t = absurd t
meet_same level zero zero a b h t = h
meet_same level zero (suc e) a b h t = absurd t
meet_same level (suc d) zero a b h t = absurd t
meet_same level (suc d) (suc e) a b h t = ap suc h
meet_same more zero zero a b h t = absurd t
meet_same more zero (suc e) a b h t = absurd t
meet_same more (suc d) zero a b h t = sym h
meet_same more (suc d) (suc e) a b h t = absurd t

same_meet : (o : Off) (d e a b : ℕ) → Stands o a b → onward d a ≡ onward e b → T (meet o d e)
same_meet less zero zero a b h q = omega arith
same_meet less zero (suc e) a b h q = tt
same_meet less (suc d) zero a b h q = omega arith
same_meet less (suc d) (suc e) a b h q = omega arith
same_meet level zero zero a b h q = tt
same_meet level zero (suc e) a b h q = omega arith
same_meet level (suc d) zero a b h q = omega arith
same_meet level (suc d) (suc e) a b h q = tt
same_meet more zero zero a b h q = omega arith
same_meet more zero (suc e) a b h q = omega arith
same_meet more (suc d) zero a b h q = tt
same_meet more (suc d) (suc e) a b h q = omega arith

stands : (d e a b : ℕ) → onward d a ≡ onward e b → (o : Off) × Stands o a b
stands zero zero a b q = (level, q)
stands zero (suc e) a b q = (less, q)
stands (suc d) zero a b q = (more, sym q)
stands (suc d) (suc e) a b q = (level, omega arith)

-- How one cube lies to another, along the three axes.
abbrev pub Offset : Type 0
Offset = Off × Off × Off

abbrev pub Related : Offset → Voxel → Voxel → Type 0
Related o u v = Stands o.0 u.x v.x × Stands o.1 u.y v.y × Stands o.2 u.z v.z

abbrev along : ℕ → ℕ
along l = axis_number (axis_named (axis l))

-- Link i of one cube is link j of the other.
abbrev pub meets : Offset → ℕ → ℕ → Bool
meets o i j =
    meet o.0 (dx (lower i)) (dx (lower j)) && (meet o.1 (dy (lower i)) (dy (lower j)) && (meet o.2 (dz (lower i)) (dz (lower j)) && eqb (along i) (along j)))

module _ (o : Offset) (u v : Voxel) (h : Related o u v) (i j : ℕ) where
  abbrev mx : Bool
  mx = meet o.0 (dx (lower i)) (dx (lower j))

  abbrev my : Bool
  my = meet o.1 (dy (lower i)) (dy (lower j))

  abbrev mz : Bool
  mz = meet o.2 (dz (lower i)) (dz (lower j))

  abbrev ma : Bool
  ma = eqb (along i) (along j)

  abbrev mza : Bool
  mza = mz && ma

  abbrev myza : Bool
  myza = my && mza

  pub meets_same : T (meets o i j) → link_at u i ≡ link_at v j
  meets_same t =
      let tyz = and_right mx myza t in
      let tz = and_right my mza tyz in
      let low = voxel_same (voxel_at u (lower i)) (voxel_at v (lower j)) (
        meet_same o.0 (dx (lower i)) (dx (lower j)) u.x v.x h.0 (and_left mx myza t),
        meet_same o.1 (dy (lower i)) (dy (lower j)) u.y v.y h.1 (and_left my mza tyz),
        meet_same o.2 (dz (lower i)) (dz (lower j)) u.z v.z h.2 (and_left mz ma tz),
      ) in
      let ax = axis_same (axis_named (axis i)) (axis_named (axis j)) (eqb→eq (along i) (along j) (and_right mz ma tz)) in
      λ n. record { lower = low n; axis = ax n }

  pub same_meets : link_at u i ≡ link_at v j → T (meets o i j)
  same_meets e =
      yes_and mx myza (same_meet o.0 (dx (lower i)) (dx (lower j)) u.x v.x h.0 (ap (λ k. k.lower.x) e))
      (yes_and my mza (same_meet o.1 (dy (lower i)) (dy (lower j)) u.y v.y h.1 (ap (λ k. k.lower.y) e))
      (yes_and mz ma (same_meet o.2 (dz (lower i)) (dz (lower j)) u.z v.z h.2 (ap (λ k. k.lower.z) e))
      (subst (λ n. T (eqb (along i) n)) (ap (λ k. axis_number k.axis) e) (eqb_refl (along i)))))

-- Cubes that have a link in common lie to each other in one of these ways.
pub related : (u v : Voxel) (i j : ℕ) → link_at u i ≡ link_at v j → (o : Offset) × Related o u v
related u v i j e =
    let x = stands (dx (lower i)) (dx (lower j)) u.x v.x (ap (λ k. k.lower.x) e) in
    let y = stands (dy (lower i)) (dy (lower j)) u.y v.y (ap (λ k. k.lower.y) e) in
    let z = stands (dz (lower i)) (dz (lower j)) u.z v.z (ap (λ k. k.lower.z) e) in
    ((x.0, y.0, z.0), (x.1, y.1, z.1))

-- The links of one cube are twelve.
abbrev apart_in_cube : ℕ → ℕ → Bool
apart_in_cube i j = elim (meets (level, level, level) i j) [ true ↦ eqb i j | false ↦ true ]

all_apart : T (list_all (λ i. list_all (apart_in_cube i) link_numbers) link_numbers)
all_apart = tt

pub link_once : (u : Voxel) (i j : ℕ) → In i link_numbers → In j link_numbers → link_at u i ≡ link_at u j → i ≡ j
link_once u i j hi hj e =
    eqb→eq i j
    (when (meets (level, level, level) i j) (eqb i j)
    (every_at (apart_in_cube i) link_numbers (every_at (λ i. list_all (apart_in_cube i) link_numbers) link_numbers all_apart i hi) j hj)
    (same_meets (level, level, level) u u (refl, refl, refl) i j e))
