use Rattle.surface.proofs.Front as law
use Rattle.surface.proofs.laws.closed.Goals as goal

pub returns : goal.returns
returns c = law.closed
