use Rattle.drawing.proofs.progress.EndingDisplay.fmt.Goals as goal

pub returns-in-Lacking-clause-writes : goal.returns-in-Lacking-clause-writes
returns-in-Lacking-clause-writes g c = rw c.in-Lacking.is c.write-in-Lacking.ensures.writes
