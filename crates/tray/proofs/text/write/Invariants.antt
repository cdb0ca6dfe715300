use Rattle.std.proofs.Common.{◌≡◌, ◌*◌, ◌++◌, take, drop}
use Rattle.tray.specs.Texts.{text_of}
use Rattle.tray.proofs.text.write.Given as goal

abbrev pub invariant-loop-n : goal.invariant-loop-n
invariant-loop-n l = l.bytes ≡ text_of (take l.n l.list) ++ drop (27 * l.n) l.initial.bytes
