-- All that holds of a list of calls. Assumes nothing.
use Rattle.std.specs.Prelude.{ℕ, List, map}
use Rattle.scan.specs.Meaning.{Meaning}
use Rattle.tray.specs.Holding.{Held}
use Rattle.tray.specs.declared.triangle.Triangle.{Triangle}
use Rattle.session.specs.Keeping.{AllKept, RunsOn, Standing, start_on}
use Rattle.session.specs.Surfaces.{Surfaced}
use Rattle.session.specs.Ways.{Repeats}
use Rattle.session.specs.declared.call.Entry.{Entry}
use Rattle.session.specs.declared.state.State.{State}

-- A list of calls on a scan and trays, from the first to the last.
pub record Ran {T : Type 0} (m : Meaning) (others : List Meaning) (holds : T → Held) (keeps : ℕ → T → T → Type 0) (before : List T) (es : List Entry) (state : State) (after : List T) : Type 0 where
  pub laid : List Triangle
  -- Each answer is that of its call, from the trays at the start on, and the trays are what the calls leave.
  pub runs : RunsOn m others holds keeps (start_on before) es (record { state = state; trays = after; laid = laid })
  -- What was laid is the surface of the drawn cubes.
  pub surface : Surfaced m state laid
  -- The same calls again answer and lay the same; exchanged, they lay the same triangles turned over.
  pub repeats : Repeats m others (map holds before) es (record { state = state; trays = map holds after; laid = laid })
  -- Through all the calls, and through the later ones from any moment on, each tray keeps its number of places, and all past the
  -- most triangles that it holds after any of them.
  pub kept : (u : Standing T) (later : List Entry)
      → RunsOn m others holds keeps u later (record { state = state; trays = after; laid = laid })
      → AllKept m others holds keeps u later after
