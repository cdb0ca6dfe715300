-- A cut-out lies inside the scan below. Assumes nothing.
use Rattle.std.specs.Prelude.{ℕ, ◌+◌, ◌<◌, ◌≤◌}
use Rattle.std.proofs.Common.{arith}
use Rattle.grid.specs.Voxels.{Holds}
use Rattle.grid.specs.declared.sides.Sides.{Sides}
use Rattle.grid.specs.declared.voxel.Voxel.{Voxel}
use Rattle.scan.specs.Cuts.{Clipped, clip_low, clip_length, cut_low, cut_sides, shifted}
use Rattle.scan.specs.declared.lengths.Lengths.{Lengths}

-- a corner and a length are clipped as the rule says
pub clipped : (side low length : ℕ) → 1 ≤ side → Clipped side low length (clip_low side low) (clip_length side low length)
clipped side low length h = record {
  within = λ l. omega arith;
  past = λ l. omega arith;
  least = λ e. omega arith;
  kept = λ l f. omega arith;
  most = λ f. omega arith;
}

-- a place of the part is a place of the side
pub clip_inside : (side low length at : ℕ) → 1 ≤ side → at < clip_length side low length → clip_low side low + at < side
clip_inside side low length at h l = omega arith

-- each voxel of a cut-out shows a voxel of the scan below
pub cut_inside : (s : Sides) (low : Voxel) (lengths : Lengths) (v : Voxel) → Holds (cut_sides s low lengths) v → Holds s (shifted (cut_low s low) v)
cut_inside s low lengths v h = (
  clip_inside s.x low.x lengths.x v.x s.fits.0.0 h.0,
  clip_inside s.y low.y lengths.y v.y s.fits.1.0 h.1,
  clip_inside s.z low.z lengths.z v.z s.fits.2.0 h.2,
)
