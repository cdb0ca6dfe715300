-- One call of a list, whatever was laid before it. Assumes nothing.
use Rattle.std.specs.Prelude.{◌≡◌, ℕ, ◌<◌, ◌⊎◌, List, ◌++◌, length, None, Option}
use Rattle.scan.specs.Meaning.{Meaning}
use Rattle.tray.specs.Holding.{Held}
use Rattle.tray.specs.declared.triangle.Triangle.{Triangle}
use Rattle.session.specs.Worlds.{World}
use Rattle.session.specs.Calls.{IsOpen, DrawingOn, Made}
use Rattle.session.specs.declared.call.Answer.{Answer}
use Rattle.session.specs.declared.call.Call.{Call}
use Rattle.session.specs.declared.call.Call.TheVariants.{Empty}
use Rattle.session.specs.declared.state.State.{State}

abbrev pub world : State → List Held → List Triangle → World
world s hs ts = record { state = s; trays = hs; laid = ts }

-- A call is made, and lays some triangles more.
abbrev pub Steps : Meaning → List Meaning → State → List Held → Call → Option Answer → State → List Held → Type 0
Steps m others s hs c a s' hs' =
    (more : List Triangle) × ((ts : List Triangle) → Made m others (world s hs ts) c a (world s' hs' (ts ++ more)))

-- A call is made that touches no tray.
abbrev pub StepsAlone : Meaning → State → Call → Option Answer → State → Type 0
StepsAlone m s c a s' = (others : List Meaning) (hs : List Held) (ts : List Triangle) → Made m others (world s hs ts) c a (world s' hs ts)

-- A tray is emptied.
abbrev pub Clears : State → List Held → ℕ → Option Answer → State → List Held → Type 0
Clears s hs t a s' hs' = (m : Meaning) (others : List Meaning) (ts : List Triangle) → Made m others (world s hs ts) (Empty t) a (world s' hs' ts)

-- A draw is made with a scan, if a drawing is open and the tray is there.
abbrev pub Tries : Meaning → State → List Held → ℕ → ℕ → Option Answer → State → List Held → Type 0
Tries m s hs t budget a s' hs' =
    (more : List Triangle) × ((ts : List Triangle)
    → ((IsOpen s × (t < length hs)) × DrawingOn m t budget (world s hs ts) a (world s' hs' (ts ++ more)))
    ⊎ ((IsOpen s × (t < length hs) → ⊥) × (a ≡ None) × (world s' hs' (ts ++ more) ≡ world s hs ts)))
