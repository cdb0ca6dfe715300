-- What the mask of a cube tells of the next one along x. Assumes nothing.
use Rattle.std.proofs.Common.{◌≡◌, ℕ, zero, suc, ◌+◌, ◌<◌, ◌%◌, Option, Some, None, Ok, IfSome, sym, ap, ◌∙◌, subst, arith}
use native.Mathlib.Numerals.{add-one}
use Rattle.grid.specs.declared.voxel.Voxel.{Voxel}
use Rattle.cube.specs.Cube.{solid}
use Rattle.cube.specs.declared.mask.Mask.{Mask}
use Rattle.scan.specs.Meaning.{Meaning}
use Rattle.drawing.specs.Readings.{Beside, CubeRead, SideRead}
use Rattle.drawing.specs.declared.cube_at.CubeAt.{CubeAt}
use Rattle.drawing.specs.declared.letter.SolidTest.{SolidTest}

-- The cube one voxel further along x, with the next coordinate written as a successor.
abbrev right : Voxel → Voxel
right v = record { x = suc v.x; y = v.y; z = v.z }

right_is : (v : Voxel) → record { x = v.x + 1; y = v.y; z = v.z } ≡ right v
right_is v = λ i. record { x = add-one v.x i; y = v.y; z = v.z }

module _ (t : SolidTest) (m : Meaning) where
  pub none_beside : (o : Option CubeAt) → IfSome o (λ c. Beside t m c.low None)
  none_beside None = tt
  none_beside (Some c) = λ _. tt

  side : (low : Voxel) (mask : Mask) → CubeRead t m low (Ok mask) → SideRead t m (right low) mask
  side low mask read zero h e = (read.0 1 (omega arith), ap (λ k. solid k 1) read.1)
  side low mask read (suc zero) h e = let z : ⊥ = omega (arith, e) in absurd z
  side low mask read (suc (suc zero)) h e = (read.0 3 (omega arith), ap (λ k. solid k 3) read.1)
  side low mask read (suc (suc (suc zero))) h e = let z : ⊥ = omega (arith, e) in absurd z
  side low mask read (suc (suc (suc (suc zero)))) h e = (read.0 5 (omega arith), ap (λ k. solid k 5) read.1)
  side low mask read (suc (suc (suc (suc (suc zero))))) h e = let z : ⊥ = omega (arith, e) in absurd z
  side low mask read (suc (suc (suc (suc (suc (suc zero)))))) h e = (read.0 7 (omega arith), ap (λ k. solid k 7) read.1)
  side low mask read (suc (suc (suc (suc (suc (suc (suc i))))))) h e = let z : ⊥ = odd i h e in absurd z
    where
      odd : (i : ℕ) → suc (suc (suc (suc (suc (suc (suc i)))))) < 8 → suc (suc (suc (suc (suc (suc (suc i)))))) % 2 ≡ 0 → ⊥
      odd zero h e = omega (arith, e)
      odd (suc i) h e = omega (arith, h)

  pub read_beside : (low : Voxel) (mask : Mask) (o : Option CubeAt) → CubeRead t m low (Ok mask)
      → IfSome o (λ c. 0 < c.low.x → c.low ≡ record { x = low.x + 1; y = low.y; z = low.z })
      → IfSome o (λ c. Beside t m c.low (Some mask))
  read_beside low mask None read along = tt
  read_beside low mask (Some c) read along = λ h. subst (λ (v : Voxel). SideRead t m v mask) (sym (along h ∙ right_is low)) (side low mask read)
