use Rattle.surface.proofs.Placement as law
use Rattle.surface.proofs.laws.all_placed.Goals as goal

pub returns : goal.returns
returns c = law.all_placed
