-- What is printed of an opening that is asked, of refusals, of how a draw ended and of a report. Assumes nothing.
use Rattle.std.specs.Prelude.{ℕ, List, ◌++◌, codes}
use Rattle.std.specs.Fmt.{decimal}
use Rattle.grid.specs.Texts.{voxel_text}
use Rattle.drawing.specs.Closings.{unfinished_number}
use Rattle.drawing.specs.Endings.{draw_number}
use Rattle.drawing.specs.Opening.{number}
use Rattle.drawing.specs.declared.asked.Asked.{Asked}
use Rattle.drawing.specs.declared.cubes_left.CubesLeft.{CubesLeft}
use Rattle.drawing.specs.declared.report.Report.{Report}
use Rattle.drawing.specs.declared.letter.Letter.{Letter}
use Rattle.drawing.specs.declared.letter.Letter.TheVariants.{H, L}
use Rattle.drawing.specs.declared.progress.DrawRefusal.{DrawRefusal}
use Rattle.drawing.specs.declared.progress.DrawRefusal.TheVariants.{OtherSides, ZeroBudget}
use Rattle.drawing.specs.declared.progress.Ending.{Ending}
use Rattle.drawing.specs.declared.progress.Ending.TheVariants as ending
use Rattle.drawing.specs.declared.progress.Progress.{Progress}
use Rattle.drawing.specs.declared.refusal.OpenRefusal.{OpenRefusal}
use Rattle.drawing.specs.declared.unfinished.Unfinished.{Unfinished}
use Rattle.drawing.specs.declared.refusal.OpenRefusal.TheVariants.{ThinSide, ZeroThreshold, NoPair, Lacking, Mixed}

-- A letter is printed as itself.
abbrev pub letter_text : Letter → List ℕ
letter_text H = codes "H"
letter_text L = codes "L"

-- What is asked of an opening is printed as in: threshold 500, H, (18,6).
abbrev pub asked_text : Asked → List ℕ
asked_text a =
    codes "threshold " ++ (decimal a.test.threshold ++ (codes ", " ++ (letter_text a.test.letter ++ (codes ", (" ++ (decimal a.s ++ (codes "," ++ (decimal a.h ++ codes ")")))))))

-- A refusal is printed by its number and the reason, with the voxel that it tells.
abbrev pub open_reason : OpenRefusal → List ℕ
open_reason ThinSide = codes ", a side is 1"
open_reason ZeroThreshold = codes ", the threshold is 0"
open_reason NoPair = codes ", no pair has these numbers"
open_reason (Lacking v f) = codes ", no reading at " ++ voxel_text v
open_reason (Mixed v) = codes ", the border changes kind at " ++ voxel_text v

abbrev pub open_text : OpenRefusal → List ℕ
open_text e = codes "refused with " ++ (decimal (number e) ++ open_reason e)

abbrev pub draw_reason : DrawRefusal → List ℕ
draw_reason OtherSides = codes "it has other sides"
draw_reason ZeroBudget = codes "the budget is 0"

abbrev pub draw_text : DrawRefusal → List ℕ
draw_text e = codes "refused with " ++ (decimal (draw_number e) ++ (codes ", " ++ draw_reason e))

abbrev pub unfinished_text : Unfinished → List ℕ
unfinished_text e = codes "refused with " ++ (decimal (unfinished_number e) ++ codes ", cubes are left")

abbrev pub left_text : CubesLeft → List ℕ
left_text e = unfinished_text (record {})

-- An ending is printed by its number, if it has one, and the reason.
abbrev pub ending_text : Ending → List ℕ
ending_text ending.Done = codes "done"
ending_text ending.Budget = codes "the budget is used up"
ending_text (ending.Lacking cube fault) =
    codes "stopped with " ++ (decimal 11 ++ (codes ", no reading in the cube at " ++ voxel_text cube))
ending_text (ending.Full triangles free) =
    codes "stopped with " ++ (decimal 12 ++ (codes ", the next cube has " ++ (decimal triangles ++ (codes " triangles, free places: " ++ decimal free))))

-- What a draw did is printed by its numbers, and how it ended.
abbrev pub progress_text : Progress → List ℕ
progress_text p =
    decimal p.drawn ++ (codes " cubes, " ++ (decimal p.laid ++ (codes " triangles, " ++ (decimal p.left ++ (codes " left, " ++ ending_text p.ending)))))

abbrev pub report_text : Report → List ℕ
report_text r = decimal r.cubes ++ (codes " cubes and " ++ (decimal r.triangles ++ codes " triangles"))
