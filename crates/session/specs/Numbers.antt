-- The number by which an answer tells a refusal. Assumes nothing.
use Rattle.std.specs.Prelude.{ℕ, Some, None, Option, Ok, Err}
use Rattle.drawing.specs.Closings.{unfinished_number}
use Rattle.drawing.specs.Endings.{draw_number, ending_number}
use Rattle.drawing.specs.Opening.{number}
use Rattle.session.specs.declared.call.Answer.{Answer}
use Rattle.session.specs.declared.call.Answer.TheVariants.{Opened, Drawn, Closed, Emptied}

-- A refused call has the number of its refusal, and so has a draw that stopped before its budget.
abbrev pub answer_number : Answer → Option ℕ
answer_number (Opened (Ok opened)) = None
answer_number (Opened (Err e)) = Some (number e)
answer_number (Drawn (Ok p)) = ending_number p.ending
answer_number (Drawn (Err e)) = Some (draw_number e)
answer_number (Closed (Ok r)) = None
answer_number (Closed (Err left)) = Some (unfinished_number left)
answer_number Emptied = None
