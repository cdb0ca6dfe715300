use Rattle.graph.proofs.Looped.{looped}
use Rattle.graph.proofs.laws.all_looped.Goals as goal

pub returns : goal.returns
returns c = looped
