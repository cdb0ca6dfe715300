use Rattle.std.proofs.Common.{arith}
use Rattle.corner.proofs.Fractions.{fraction_is}
use Rattle.corner.proofs.Parted.{crossed, above}
use Rattle.corner.proofs.fraction.fraction.Goals as goal

pub twice_level-requires : goal.twice_level-requires
twice_level-requires c = above c.args.test c.args.low c.args.high c.requires

pub returns : goal.returns
returns c =
    fraction_is _ c.args.low c.args.high _ _ (crossed c.args.test c.args.low c.args.high c.requires)
    c.ranges.low.fits c.ranges.high.fits (omega arith) (omega arith)
