use Rattle.surface.proofs.Front as law
use Rattle.surface.proofs.laws.open_at_front.Goals as goal

pub returns : goal.returns
returns c = law.open_at_front
