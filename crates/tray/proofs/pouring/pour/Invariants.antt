use Rattle.std.proofs.Common.{take}
use Rattle.tray.proofs.Trays.{Laid}
use Rattle.tray.proofs.pouring.pour.Given as goal

abbrev pub invariant-loop-n : goal.invariant-loop-n
invariant-loop-n g l =
    Laid g.T.Tray.holds g.T.Tray.keeps l.initial.into (take l.n (g.S.Tray.holds l.from).list) l.into
