use Rattle.surface.proofs.Worked.{worked}
use Rattle.surface.proofs.laws.samples.Goals as goal

pub returns : goal.returns
returns c = worked
