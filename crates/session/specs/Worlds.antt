-- What a list of calls works on: a drawing or none yet, the trays, and what was laid. Assumes nothing.
use Rattle.std.specs.Prelude.{ℕ, List, [], slice_index_or, slice_set}
use Rattle.tray.specs.Holding.{Held}
use Rattle.tray.specs.declared.triangle.Triangle.{Triangle}
use Rattle.session.specs.declared.state.State.{State}
use Rattle.session.specs.declared.state.State.TheVariants.{Unopened}

-- How things stand between two calls. Laid are the triangles that the draws so far put into trays, in that order,
-- whether they were emptied since or not.
pub record World : Type 0 where
  pub state : State
  pub trays : List Held
  pub laid : List Triangle

-- Before the first call nothing is open and nothing is laid, and the trays hold and have free whatever they do.
abbrev pub start : List Held → World
start trays = record { state = Unopened; trays = trays; laid = [] }

-- The tray at a place of the list; past its end, one with nothing in it and no place.
abbrev pub tray_at : List Held → ℕ → Held
tray_at trays t = slice_index_or trays t (record { list = []; free = 0 })

-- The same with another state, or with one tray changed.
abbrev pub in_state : World → State → World
in_state w s = record { state = s; trays = w.trays; laid = w.laid }

abbrev pub with_tray : World → ℕ → Held → World
with_tray w t h = record { state = w.state; trays = slice_set w.trays t h; laid = w.laid }
