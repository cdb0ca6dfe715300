use Rattle.surface.proofs.Corners as law
use Rattle.surface.proofs.laws.all_cornered.Goals as goal

pub returns : goal.returns
returns c = law.all_cornered
