-- What is printed of faults and refusals. Assumes nothing.
use Rattle.std.specs.Prelude.{ℕ, List, ◌++◌, codes}
use Rattle.std.specs.Fmt.{decimal}
use Rattle.grid.specs.Texts.{voxel_text}
use Rattle.scan.specs.Faults.{cause_number}
use Rattle.scan.specs.Making.{number}
use Rattle.scan.specs.declared.fault.Fault.{Fault}
use Rattle.scan.specs.declared.refusal.Refusal.{Refusal}

-- A fault is printed by its cause's number, its place and the scans that passed it up, as in fault 1 at (1,2,3), passed up by 0.
abbrev pub fault_text : Fault → List ℕ
fault_text f =
    codes "fault " ++ (decimal (cause_number f.cause) ++ (codes " at " ++ (voxel_text f.at ++ (codes ", passed up by " ++ decimal f.passed))))

-- A refusal is printed by its number, as in refused with 1.
abbrev pub refusal_text : Refusal → List ℕ
refusal_text r = codes "refused with " ++ decimal (number r)
