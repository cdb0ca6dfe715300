-- A scan that only passes another one on. Assumes nothing.
use Rattle.std.specs.Prelude.{Ok, Err}
use Rattle.scan.specs.Cuts.{raised}
use Rattle.scan.specs.Meaning.{Answer, FaultsOutside, Lawful, Meaning, Voxelwise}

-- It has the sides of the scan below and answers each place as that does, with each fault passed up.
abbrev pub relayed : Meaning → Meaning
relayed m = record { sides = m.sides; at = λ v. raised (m.at v) }

-- A fault that is passed up keeps its cause, at a voxel and outside.
voxelwise : (a : Answer) → Voxelwise a → Voxelwise (raised a)
voxelwise (Ok reading) h = h
voxelwise (Err f) h = h

outside : (a : Answer) → FaultsOutside a → FaultsOutside (raised a)
outside (Ok reading) h = h
outside (Err f) h = h

-- So it owes nothing that the scan below does not.
pub relayed_lawful : (m : Meaning) → Lawful m → Lawful (relayed m)
relayed_lawful m law = record {
  inside = λ v h. voxelwise (m.at v) (law.inside v h);
  outside = λ v none. outside (m.at v) (law.outside v none);
}
