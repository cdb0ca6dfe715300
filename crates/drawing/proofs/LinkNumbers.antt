-- The number of a cube's link from that of its lower voxel. Assumes nothing.
use Rattle.std.proofs.Common.{◌≡◌, ℕ, zero, suc, ◌+◌, ◌*◌, ◌/◌, ◌<◌, refl, ap, ◌∙◌, arith}
use Rattle.grid.specs.Links.{axis_number}
use Rattle.grid.specs.Voxels.{number_of}
use Rattle.grid.specs.declared.sides.Sides.{Sides}
use Rattle.grid.specs.declared.voxel.Voxel.{Voxel}
use Rattle.cube.specs.Cube.{lower}
use Rattle.surface.specs.Places.{axis_named, number_at, voxel_at}

axis_is : (a : ℕ) → a < 3 → axis_number (axis_named a) ≡ a
axis_is zero h = refl
axis_is (suc zero) h = refl
axis_is (suc (suc zero)) h = refl
axis_is (suc (suc (suc a))) h = let z : ⊥ = omega (arith, h) in absurd z

pub number_is : (s : Sides) (low v : Voxel) (l e n axis : ℕ) → l < 12 → v ≡ voxel_at low e → e ≡ lower l → n ≡ number_of s v → axis ≡ l / 4
    → 3 * n + axis ≡ number_at s low l
number_is s low v l e n axis h hv he hn ha =
    let k : n ≡ number_of s (voxel_at low (lower l)) = hn ∙ ap (number_of s) (hv ∙ ap (voxel_at low) he) in
    let a : axis_number (axis_named (l / 4)) ≡ l / 4 = axis_is (l / 4) (omega (arith, h)) in
    omega (arith, k, a, ha)
