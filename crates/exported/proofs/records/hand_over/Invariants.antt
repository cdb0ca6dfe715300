use Rattle.std.proofs.Common.{◌≡◌, ◌*◌, ◌++◌, take, drop}
use Rattle.exported.specs.Drawings.{numbers_of}
use Rattle.exported.proofs.records.hand_over.Given as goal

-- The triangles so far are written over the front.
abbrev pub invariant-loop-n : goal.invariant-loop-n
invariant-loop-n l = l.numbers ≡ numbers_of (take l.n l.triangles) ++ drop (3 * l.n) l.initial.numbers
