use Rattle.std.proofs.Common.{◌≡◌, ap, ◌∙◌, rules}
use Rattle.std.proofs.iter.runs.Made.{chains}
use Rattle.cube.specs.Cube.{kinds}
use Rattle.cube.proofs.Bits.{mask_of, kinds_mask_of}
use Rattle.cube.proofs.mask.Mask.of.Goals as goal

pub returns : goal.returns
returns c =
    let bits : c.fold-bits.result ≡ mask_of c.args.voxels = search (rules, chains) in
    ap kinds bits ∙ kinds_mask_of c.args.voxels (search rules)
