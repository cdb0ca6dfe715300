-- What each call answers and does, and what a list of calls does. Assumes nothing.
use Rattle.std.specs.Prelude.{◌≡◌, ℕ, ◌<◌, ◌⊎◌, List, [], ◌∷◌, ◌++◌, length, Ok, Err, Result, Some, None, Option, ◌≢◌, slice_index_or, slice_set}
use Rattle.scan.specs.Meaning.{Meaning}
use Rattle.tray.specs.Holding.{Held, emptied}
use Rattle.tray.specs.declared.triangle.Triangle.{Triangle}
use Rattle.drawing.specs.Opening.{Opened as OpenedBy}
use Rattle.drawing.specs.Draws.{Draws}
use Rattle.drawing.specs.Closings.{Closes, report_of}
use Rattle.drawing.specs.declared.asked.Asked.{Asked}
use Rattle.drawing.specs.declared.closed.Closed.{Closed}
use Rattle.drawing.specs.declared.cubes_left.CubesLeft.{CubesLeft}
use Rattle.drawing.specs.declared.drawing.Drawing.{Drawing}
use Rattle.drawing.specs.declared.progress.DrawRefusal.{DrawRefusal}
use Rattle.drawing.specs.declared.progress.Progress.{Progress}
use Rattle.drawing.specs.declared.refusal.OpenRefusal.{OpenRefusal}
use Rattle.session.specs.Worlds.{World, tray_at, in_state, with_tray}
use Rattle.session.specs.declared.call.Answer.{Answer}
use Rattle.session.specs.declared.call.Answer.TheVariants as answer
use Rattle.session.specs.declared.call.Call.{Call}
use Rattle.session.specs.declared.call.Call.TheVariants.{Open, Draw, DrawOther, Close, Empty}
use Rattle.session.specs.declared.call.Entry.{Entry}
use Rattle.session.specs.declared.state.State.{State}
use Rattle.session.specs.declared.state.State.TheVariants.{Unopened, Opened, Finished}

-- The scan at a place of the list of other scans.
abbrev pub other_at : List Meaning → Meaning → ℕ → Meaning
other_at others m i = slice_index_or others i m

-- The scan is open for drawing.
abbrev pub IsOpen : State → Type 0
IsOpen s = (d : Drawing) × (s ≡ Opened d)

-- Which calls can be made: an opening while nothing was opened, a draw and a closing while a drawing is open. A tray that is
-- named has to be there, and so has another scan, which has other sides than the one that is drawn.
abbrev pub CanMake : Meaning → List Meaning → World → Call → Type 0
CanMake m others w (Open asked) = w.state ≡ Unopened
CanMake m others w (Draw t budget) = IsOpen w.state × (t < length w.trays)
CanMake m others w (DrawOther o t budget) =
    IsOpen w.state × (t < length w.trays) × (o < length others) × ((other_at others m o).sides ≢ m.sides)
CanMake m others w Close = IsOpen w.state
CanMake m others w (Empty t) = t < length w.trays

-- An opening answers as it does by itself; where it is accepted, the drawing is open from then on.
abbrev pub open_answer : Result Drawing OpenRefusal → Answer
open_answer (Ok d) = answer.Opened (Ok tt)
open_answer (Err e) = answer.Opened (Err e)

abbrev pub open_after : World → Result Drawing OpenRefusal → World
open_after w (Ok d) = in_state w (Opened d)
open_after w (Err e) = w

pub record Opening (m : Meaning) (asked : Asked) (w : World) (a : Option Answer) (w' : World) : Type 0 where
  pub result : Result Drawing OpenRefusal
  pub law : OpenedBy m asked result
  pub told : a ≡ Some (open_answer result)
  pub after : w' ≡ open_after w result

-- A draw answers as it does by itself, from the drawing and the tray that it finds; what the tray then holds more is laid.
pub record DrawingOn (m : Meaning) (t budget : ℕ) (w : World) (a : Option Answer) (w' : World) : Type 0 where
  pub before : Drawing
  pub found : w.state ≡ Opened before
  pub result : Result Progress DrawRefusal
  pub drawing : Drawing
  pub held : Held
  pub more : List Triangle
  pub law : Draws m budget before (tray_at w.trays t) result drawing held
  pub put : held.list ≡ (tray_at w.trays t).list ++ more
  pub told : a ≡ Some (answer.Drawn result)
  pub after : w' ≡ record { state = Opened drawing; trays = slice_set w.trays t held; laid = w.laid ++ more }

-- A closing answers as it does by itself; where it is accepted it tells the report, and else the drawing stays.
abbrev pub close_answer : Result Closed CubesLeft → Answer
close_answer (Ok c) = answer.Closed (Ok (report_of c))
close_answer (Err e) = answer.Closed (Err (record {}))

abbrev pub close_after : Result Closed CubesLeft → State
close_after (Ok c) = Finished c
close_after (Err e) = Opened e.drawing

pub record Closing (w : World) (a : Option Answer) (w' : World) : Type 0 where
  pub before : Drawing
  pub found : w.state ≡ Opened before
  pub result : Result Closed CubesLeft
  pub law : Closes before result
  pub told : a ≡ Some (close_answer result)
  pub after : w' ≡ in_state w (close_after result)

-- What a call that can be made answers and does.
abbrev pub Answered : Meaning → List Meaning → World → Call → Option Answer → World → Type 0
Answered m others w (Open asked) a w' = Opening m asked w a w'
Answered m others w (Draw t budget) a w' = DrawingOn m t budget w a w'
Answered m others w (DrawOther o t budget) a w' = DrawingOn (other_at others m o) t budget w a w'
Answered m others w Close a w' = Closing w a w'
Answered m others w (Empty t) a w' = (a ≡ Some answer.Emptied) × (w' ≡ with_tray w t (emptied (tray_at w.trays t)))

-- A call that cannot be made has no answer, and changes nothing.
abbrev pub Made : Meaning → List Meaning → World → Call → Option Answer → World → Type 0
Made m others w c a w' =
    (CanMake m others w c × Answered m others w c a w') ⊎ ((CanMake m others w c → ⊥) × (a ≡ None) × (w' ≡ w))

-- A list of calls is made one after the other, each where the one before left things.
abbrev pub Runs : Meaning → List Meaning → World → List Entry → World → Type 0
Runs m others w [] w' = w' ≡ w
Runs m others w (e ∷ es) w' = (v : World) × Made m others w e.call e.answer v × Runs m others v es w'
