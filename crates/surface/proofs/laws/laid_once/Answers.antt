use Rattle.surface.proofs.Once as law
use Rattle.surface.proofs.laws.laid_once.Goals as goal

pub returns : goal.returns
returns c = law.laid_once
