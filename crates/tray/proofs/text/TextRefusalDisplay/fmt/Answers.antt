use Rattle.tray.proofs.text.TextRefusalDisplay.fmt.Goals as goal

pub returns-in-NoRoom-clause-writes : goal.returns-in-NoRoom-clause-writes
returns-in-NoRoom-clause-writes g c = rw c.in-NoRoom.is c.write-in-NoRoom.ensures.writes
