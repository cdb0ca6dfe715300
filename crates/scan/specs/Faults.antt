-- Faults: why a place has no reading, where, and how far up the fault was passed. Assumes nothing.
use Rattle.std.specs.Prelude.{ℕ, ◌+◌, min}
use Rattle.grid.specs.declared.voxel.Voxel.{Voxel}
use Rattle.scan.specs.declared.fault.Cause.{Cause}
use Rattle.scan.specs.declared.fault.Cause.TheVariants.{NoReading, Outside}
use Rattle.scan.specs.declared.fault.Fault.{Fault}

-- The causes by number.
abbrev pub cause_number : Cause → ℕ
cause_number NoReading = 1
cause_number Outside = 2

-- A fault of a scan's own, which no other scan has passed up.
abbrev pub own_fault : Cause → Voxel → Fault
own_fault cause v = record { cause = cause; at = v; passed = 0 }

-- A fault passed up by one more scan is the same fault; the count of scans stays at 255.
abbrev pub passed_up : Fault → Fault
passed_up f = record { cause = f.cause; at = f.at; passed = min (f.passed + 1) 255 }
