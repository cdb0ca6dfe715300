-- Sides, voxels and axes are the same where what they are made of is. Assumes nothing.
use Rattle.std.proofs.Common.{◌≡◌, ℕ, refl, ap, ◌∙◌, arith}
use mathlib.Core.HLevel.{×_prop, is_prop→PathP}
use native.Mathlib.Bridge.{le_prop}
use Rattle.grid.specs.Numbers.{Side}
use Rattle.grid.specs.Links.{axis_number}
use Rattle.grid.specs.declared.axis.Axis.{Axis}
use Rattle.grid.specs.declared.axis.Axis.TheVariants.{X, Y, Z}
use Rattle.grid.specs.declared.sides.Sides.{Sides}
use Rattle.grid.specs.declared.voxel.Voxel.{Voxel}

-- voxels with the same coordinates are one
pub voxel_same : (v w : Voxel) → (v.x ≡ w.x) × (v.y ≡ w.y) × (v.z ≡ w.z) → v ≡ w
voxel_same v w e =
    let at : ℕ → ℕ → ℕ → Voxel = λ a b c. record { x = a; y = b; z = c } in
    ap (λ a. at a v.y v.z) e.0 ∙ ap (λ b. at w.x b v.z) e.1 ∙ ap (λ c. at w.x w.y c) e.2

-- axes with the same number are one
pub axis_same : (a b : Axis) → axis_number a ≡ axis_number b → a ≡ b
axis_same X X e = refl
axis_same X Y e = absurd (omega arith)
axis_same X Z e = absurd (omega arith)
axis_same Y X e = absurd (omega arith)
axis_same Y Y e = refl
axis_same Y Z e = absurd (omega arith)
axis_same Z X e = absurd (omega arith)
axis_same Z Y e = absurd (omega arith)
axis_same Z Z e = refl

-- a side fits in one way only
side_prop : (n : ℕ) → IsProp (Side n)
side_prop n = ×_prop le_prop le_prop

-- sides of the same lengths are one
pub sides_same : (s t : Sides) → (s.x ≡ t.x) × (s.y ≡ t.y) × (s.z ≡ t.z) → s ≡ t
sides_same s t e =
    λ i. record {
      x = e.0 i;
      y = e.1 i;
      z = e.2 i;
      fits = (is_prop→PathP (λ j. Side (e.0 j)) (λ j. side_prop (e.0 j)) s.fits.0 t.fits.0 i, is_prop→PathP (λ j. Side (e.1 j)) (λ j. side_prop (e.1 j)) s.fits.1 t.fits.1 i, is_prop→PathP (λ j. Side (e.2 j)) (λ j. side_prop (e.2 j)) s.fits.2 t.fits.2 i);
    }
