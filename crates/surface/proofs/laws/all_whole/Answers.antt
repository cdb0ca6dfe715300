use Rattle.surface.proofs.Together as law
use Rattle.surface.proofs.laws.all_whole.Goals as goal

pub returns : goal.returns
returns c = law.all_whole
