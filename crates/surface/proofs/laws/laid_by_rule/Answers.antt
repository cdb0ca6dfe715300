use Rattle.surface.proofs.Rule as rule
use Rattle.surface.proofs.laws.laid_by_rule.Goals as goal

pub returns : goal.returns
returns c = rule.laid_by_rule
