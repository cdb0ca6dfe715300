use Rattle.std.proofs.Common.{rules}
use Rattle.cube.proofs.Bits.{kinds_exchanged}
use Rattle.cube.proofs.mask.Mask.exchanged.Goals as goal

pub returns : goal.returns
returns c = kinds_exchanged c.args.self.0 (search rules)
