use Rattle.cube.specs.Triangles.{cut_all}
use Rattle.cube.proofs.table.row_of.Goals as goal

pub pick-requires : goal.pick-requires
unfolding cut_all
pick-requires c = tt
