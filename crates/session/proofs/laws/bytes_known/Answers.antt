use Rattle.session.proofs.Bytes as law
use Rattle.session.proofs.laws.bytes_known.Goals as goal

pub returns : goal.returns
returns c = record { each = law.overwritten; all = law.bytes_alike }
