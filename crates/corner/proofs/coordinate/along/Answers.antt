use Rattle.corner.proofs.Coordinates.{corner_coordinate}
use Rattle.corner.proofs.coordinate.along.Goals as goal

pub returns : goal.returns
returns c =
    let r = c.requires in
    corner_coordinate c.args.spacing c.args.index c.args.fraction r.spacing_in_range r.index_in_range r.proper
