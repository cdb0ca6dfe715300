-- What a cut-out means: a box of another scan. Assumes nothing.
use Rattle.std.specs.Prelude.{◌≡◌, ℕ, ◌+◌, ◌-◌, ◌<◌, ◌≤◌, min, max, Ok, Err}
use Rattle.std.proofs.Common.{arith}
use Rattle.grid.specs.Numbers.{Side}
use Rattle.grid.specs.Voxels.{Holds}
use Rattle.grid.specs.declared.sides.Sides.{Sides}
use Rattle.grid.specs.declared.voxel.Voxel.{Voxel}
use Rattle.scan.specs.Faults.{own_fault, passed_up}
use Rattle.scan.specs.Meaning.{Answer, Meaning, scan_of}
use Rattle.scan.specs.declared.fault.Cause.TheVariants.{Outside}
use Rattle.scan.specs.declared.lengths.Lengths.{Lengths}

-- Along one axis: a corner past the end goes back to the last voxel.
abbrev pub clip_low : (side low : ℕ) → ℕ
clip_low side low = min low (side - 1)

-- Along one axis: a length is cut to what the corner leaves, but never below one voxel.
abbrev pub clip_length : (side low length : ℕ) → ℕ
clip_length side low length = max 1 (min length (side - clip_low side low))

-- A corner and a length along an axis of that side, and what they are clipped to.
pub record Clipped (side low length low' length' : ℕ) : Type 0 where
  pub within : low < side → low' ≡ low
  pub past : side ≤ low → low' + 1 ≡ side
  pub least : length ≡ 0 → length' ≡ 1
  pub kept : 1 ≤ length → low' + length ≤ side → length' ≡ length
  pub most : side ≤ low' + length → low' + length' ≡ side

-- A clipped length is a side again.
pub clip_side : (side low length : ℕ) → Side side → Side (clip_length side low length)
clip_side side low length h = (omega arith, omega arith)

-- The corner that a cut-out has in a scan of these sides.
abbrev pub cut_low : Sides → Voxel → Voxel
cut_low s low = record { x = clip_low s.x low.x; y = clip_low s.y low.y; z = clip_low s.z low.z }

-- The sides of the cut-out.
abbrev pub cut_sides : Sides → Voxel → Lengths → Sides
cut_sides s low lengths = record {
  x = clip_length s.x low.x lengths.x;
  y = clip_length s.y low.y lengths.y;
  z = clip_length s.z low.z lengths.z;
  fits = (clip_side s.x low.x lengths.x s.fits.0, clip_side s.y low.y lengths.y s.fits.1, clip_side s.z low.z lengths.z s.fits.2);
}

-- The place of the scan below that a place of the cut-out shows.
abbrev pub shifted : Voxel → Voxel → Voxel
shifted low v = record { x = low.x + v.x; y = low.y + v.y; z = low.z + v.z }

-- An answer from below: a fault is handed on, and one scan more is counted.
abbrev pub raised : Answer → Answer
raised (Ok reading) = Ok reading
raised (Err f) = Err (passed_up f)

-- The meaning of a cut-out, by that of the scan below, a corner and three lengths.
abbrev pub cut_means : Meaning → Voxel → Lengths → Meaning
cut_means m low lengths = scan_of (cut_sides m.sides low lengths) (λ v. raised (m.at (shifted (cut_low m.sides low) v)))

-- A scan shows a box of another: its corner and sides are clipped to the scan below, each of its voxels
-- answers as the voxel below does, and any other place is its own fault.
pub record ShowsBox (m below : Meaning) (low : Voxel) (lengths : Lengths) (corner : Voxel) : Type 0 where
  pub along_x : Clipped below.sides.x low.x lengths.x corner.x m.sides.x
  pub along_y : Clipped below.sides.y low.y lengths.y corner.y m.sides.y
  pub along_z : Clipped below.sides.z low.z lengths.z corner.z m.sides.z
  pub reads : (v : Voxel) → Holds m.sides v → m.at v ≡ raised (below.at (shifted corner v))
  pub beyond : (v : Voxel) → (Holds m.sides v → ⊥) → m.at v ≡ Err (own_fault Outside v)
