use Rattle.surface.proofs.Mirror as mirror
use Rattle.surface.proofs.laws.mirrored.Goals as goal

pub returns : goal.returns
returns c = mirror.mirrored
