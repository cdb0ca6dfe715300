use Rattle.cube.proofs.Worked.{worked}
use Rattle.cube.proofs.surface.samples.Goals as goal

pub returns : goal.returns
returns c = worked
