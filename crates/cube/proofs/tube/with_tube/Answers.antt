use Rattle.std.proofs.Common.{take, ap, ◌∙◌, rules}
use Rattle.cube.specs.Cube.{kinds}
use Rattle.cube.proofs.Tubed.{tube_of, no_tube}
use Rattle.cube.proofs.tube.with_tube.Goals as goal

pub returns-then-not-is_opposite : goal.returns-then-not-is_opposite
returns-then-not-is_opposite c = c.row_of-row.ensures ∙ no_tube (kinds c.args.mask.0) (search rules)

pub returns : goal.returns
returns c =
    let made = tube_of (kinds c.args.mask.0) (search rules) c.row_of-row.result.count c.row_of-row.result.places c.row_of-row.ensures in
    ap (take 6) c.tube.ensures ∙ made
