use Rattle.std.proofs.Common.{rules}
use Rattle.cube.proofs.Bits.{solid_bit}
use Rattle.cube.proofs.mask.Mask.is_solid.Goals as goal

pub returns-then-voxel-lt8 : goal.returns-then-voxel-lt8
returns-then-voxel-lt8 c = solid_bit c.args.self.0 c.args.voxel (search rules)
