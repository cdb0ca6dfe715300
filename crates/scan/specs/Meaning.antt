-- What a scan means: its sides, and what it answers at each place. Assumes nothing.
use Rattle.std.specs.Prelude.{◌≡◌, ℕ, ◌≤◌, Bool, true, false, ◌&&◌, ◌⊎◌, Err, Result, MatchResult, nat_lt}
use Rattle.grid.specs.Voxels.{Holds}
use Rattle.grid.specs.declared.sides.Sides.{Sides}
use Rattle.grid.specs.declared.voxel.Voxel.{Voxel}
use Rattle.scan.specs.Faults.{own_fault}
use Rattle.scan.specs.declared.fault.Cause.TheVariants.{NoReading, Outside}
use Rattle.scan.specs.declared.fault.Fault.{Fault}

-- What a place answers: a reading, or a fault.
abbrev pub Answer : Type 0
Answer = Result ℕ Fault

-- A scan is its sides and its answer at each place; nothing else of it can be told from outside.
pub record Meaning : Type 0 where
  pub sides : Sides
  pub at : Voxel → Answer

-- A voxel of a scan answers with a reading of at most 65,534, or it has none.
abbrev pub Voxelwise : Answer → Type 0
Voxelwise a = MatchResult a (λ reading. reading ≤ 65534) (λ f. f.cause ≡ NoReading)

-- A place outside a scan answers with a fault that says so.
abbrev pub FaultsOutside : Answer → Type 0
FaultsOutside a = MatchResult a (λ reading. ⊥) (λ f. f.cause ≡ Outside)

-- What every scan owes: there is a fault just where nothing was measured and beyond the sides, and its cause
-- says which. The place and the count that it tells are left to each scan, since it may pass another one's fault up.
pub record Lawful (m : Meaning) : Type 0 where
  pub inside : (v : Voxel) → Holds m.sides v → Voxelwise (m.at v)
  pub outside : (v : Voxel) → (Holds m.sides v → ⊥) → FaultsOutside (m.at v)

-- What an answer tells of a place, whatever the scan: a reading of at most 65,534 at a voxel of the scan,
-- a voxel of the scan that has no reading, or a place outside.
abbrev pub Told : Sides → Voxel → Answer → Type 0
Told s v a =
    MatchResult a (λ reading. Holds s v × (reading ≤ 65534))
    (λ f. (Holds s v × (f.cause ≡ NoReading)) ⊎ ((Holds s v → ⊥) × (f.cause ≡ Outside)))

-- Whether sides hold a voxel, as a test.
abbrev pub held : Sides → Voxel → Bool
held s v = nat_lt v.x s.x && (nat_lt v.y s.y && nat_lt v.z s.z)

abbrev pub or_outside : Bool → Voxel → Answer → Answer
or_outside true v a = a
or_outside false v a = Err (own_fault Outside v)

-- The scan with these sides and these answers at its voxels.
abbrev pub scan_of : Sides → (Voxel → Answer) → Meaning
scan_of s answers = record { sides = s; at = λ v. or_outside (held s v) v (answers v) }
