-- Two ways to make a list of calls: the same again, and with solid and hollow exchanged. Assumes nothing.
use Rattle.std.specs.Prelude.{◌≡◌, ℕ, List, map, length, Option}
use Rattle.scan.specs.Meaning.{Meaning}
use Rattle.tray.specs.Holding.{Held}
use Rattle.surface.specs.Laid.{turn_over}
use Rattle.drawing.specs.Laying.{corners}
use Rattle.drawing.specs.Solids.{exchanged as exchange_test}
use Rattle.drawing.specs.declared.asked.Asked.{Asked}
use Rattle.session.specs.Worlds.{World, start, tray_at}
use Rattle.session.specs.Calls.{Runs}
use Rattle.session.specs.declared.call.Answer.{Answer}
use Rattle.session.specs.declared.call.Call.{Call}
use Rattle.session.specs.declared.call.Call.TheVariants.{Open, Draw, DrawOther, Close, Empty}
use Rattle.session.specs.declared.call.Entry.{Entry}

-- A list of calls made once more, or made with the other letter at each opening and its pair swapped.
pub data Way : Type 0 where
  again : Way
  exchanged : Way

abbrev pub asked_by : Way → Asked → Asked
asked_by again asked = asked
asked_by exchanged asked = record { test = exchange_test asked.test; s = asked.h; h = asked.s }

abbrev pub call_by : Way → Call → Call
call_by way (Open asked) = Open (asked_by way asked)
call_by way (Draw t budget) = Draw t budget
call_by way (DrawOther o t budget) = DrawOther o t budget
call_by way Close = Close
call_by way (Empty t) = Empty t

-- A triangle comes out the same, or turned over: its last two corners exchanged.
abbrev pub corners_by : Way → ℕ × ℕ × ℕ → ℕ × ℕ × ℕ
corners_by again t = t
corners_by exchanged t = turn_over t

-- A tray is the same, or it holds as many triangles and has as many places free.
abbrev pub TrayBy : Way → Held → Held → Type 0
TrayBy again h h' = h' ≡ h
TrayBy exchanged h h' = (length h'.list ≡ length h.list) × (h'.free ≡ h.free)

pub record TraysBy (way : Way) (hs hs' : List Held) : Type 0 where
  pub many : length hs' ≡ length hs
  pub each : (t : ℕ) → TrayBy way (tray_at hs t) (tray_at hs' t)

abbrev pub calls_of : List Entry → List Call
calls_of es = map (λ e. e.call) es

abbrev pub answers_of : List Entry → List (Option Answer)
answers_of es = map (λ e. e.answer) es

-- What two lists of calls have in common: each call has the same answer, the same triangles are laid in the same order,
-- by that way, and the trays end alike.
pub record Matches (way : Way) (es es' : List Entry) (w w' : World) : Type 0 where
  pub answers : answers_of es' ≡ answers_of es
  pub laid : map corners w'.laid ≡ map (corners_by way) (map corners w.laid)
  pub trays : TraysBy way w.trays w'.trays

-- Whoever makes the calls by a way on the same scan, on trays that begin alike, is told and lays the same.
abbrev pub Repeats : Meaning → List Meaning → List Held → List Entry → World → Type 0
Repeats m others trays es w =
    (way : Way) (trays' : List Held) (es' : List Entry) (w' : World)
    → TraysBy way trays trays'
    → calls_of es' ≡ map (call_by way) (calls_of es)
    → Runs m others (start trays') es' w'
    → Matches way es es' w w'
