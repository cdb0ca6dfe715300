use Rattle.surface.proofs.Ends as law
use Rattle.surface.proofs.laws.all_joined.Goals as goal

pub returns : goal.returns
returns c = law.all_joined
