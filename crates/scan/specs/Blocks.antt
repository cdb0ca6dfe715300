-- What a block means: readings listed in voxel order. Assumes nothing.
use Rattle.std.specs.Prelude.{◌≡◌, ℕ, ◌<◌, Bool, true, false, List, length, Ok, Err, nat_lt, slice_index}
use Rattle.grid.specs.Voxels.{Holds, count_of, number_of}
use Rattle.grid.specs.declared.sides.Sides.{Sides}
use Rattle.grid.specs.declared.voxel.Voxel.{Voxel}
use Rattle.scan.specs.Faults.{own_fault}
use Rattle.scan.specs.Making.{SidesAre}
use Rattle.scan.specs.Meaning.{Answer, Meaning, scan_of}
use Rattle.scan.specs.declared.fault.Cause.TheVariants.{NoReading, Outside}
use Rattle.scan.specs.declared.lengths.Lengths.{Lengths}

abbrev pub or_lacking : Bool → ℕ → Voxel → Answer
or_lacking true value v = Ok value
or_lacking false value v = Err (own_fault NoReading v)

-- A voxel answers with the value at its number, unless that is 65,535, which is no reading.
abbrev pub listed : Sides → List ℕ → Voxel → Answer
listed s values v = or_lacking (nat_lt (slice_index values (number_of s v)) 65535) (slice_index values (number_of s v)) v

-- The meaning of a block.
abbrev pub block_means : Sides → List ℕ → Meaning
block_means s values = scan_of s (listed s values)

-- A scan shows a list of values: each value stands for one voxel, in voxel order, and no other place is read.
pub record ShowsValues (m : Meaning) (sides : Lengths) (values : List ℕ) : Type 0 where
  pub size : SidesAre m.sides sides
  pub whole : length values ≡ count_of m.sides
  pub reads : (v : Voxel) → Holds m.sides v → slice_index values (number_of m.sides v) < 65535
      → m.at v ≡ Ok (slice_index values (number_of m.sides v))
  pub lacks : (v : Voxel) → Holds m.sides v → slice_index values (number_of m.sides v) ≡ 65535
      → m.at v ≡ Err (own_fault NoReading v)
  pub beyond : (v : Voxel) → (Holds m.sides v → ⊥) → m.at v ≡ Err (own_fault Outside v)
