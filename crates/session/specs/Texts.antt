-- What is printed of calls and their answers. Assumes nothing.
use Rattle.std.specs.Prelude.{ℕ, List, ◌++◌, Some, None, Ok, Err, Option, codes}
use Rattle.std.specs.Fmt.{decimal}
use Rattle.drawing.specs.Texts.{asked_text, open_text, draw_text, progress_text, report_text, unfinished_text}
use Rattle.session.specs.declared.call.Answer.{Answer}
use Rattle.session.specs.declared.call.Answer.TheVariants as answer
use Rattle.session.specs.declared.call.Call.{Call}
use Rattle.session.specs.declared.call.Call.TheVariants.{Open, Draw, DrawOther, Close, Empty}
use Rattle.session.specs.declared.call.Entry.{Entry}

-- A call is printed as what is asked.
abbrev pub call_text : Call → List ℕ
call_text (Open asked) = codes "open at " ++ asked_text asked
call_text (Draw tray budget) = codes "draw at most " ++ (decimal budget ++ (codes " cubes into tray " ++ decimal tray))
call_text (DrawOther other tray budget) =
    codes "draw at most " ++ (decimal budget ++ (codes " cubes of another scan into tray " ++ decimal tray))
call_text Close = codes "close"
call_text (Empty tray) = codes "empty tray " ++ decimal tray

-- An answer is printed as what came of the call.
abbrev pub answer_text : Answer → List ℕ
answer_text (answer.Opened (Ok opened)) = codes "opened"
answer_text (answer.Opened (Err e)) = open_text e
answer_text (answer.Drawn (Ok p)) = progress_text p
answer_text (answer.Drawn (Err e)) = draw_text e
answer_text (answer.Closed (Ok r)) = report_text r ++ codes " in all"
answer_text (answer.Closed (Err e)) = unfinished_text e
answer_text answer.Emptied = codes "emptied"

-- A call is printed with its answer, or that it cannot be made.
abbrev pub told : Option Answer → List ℕ
told (Some a) = answer_text a
told None = codes "cannot be made here"

abbrev pub entry_text : Entry → List ℕ
entry_text e = call_text e.call ++ (codes ": " ++ told e.answer)
