-- What the calls of a list do to the trays themselves, call by call and in all. Assumes nothing.
use Rattle.std.specs.Prelude.{◌≡◌, ℕ, suc, ◌≤◌, List, [], ◌∷◌, map, length, take, slice_index_or, slice_set, Some, None, Option, Ok, Err}
use Rattle.scan.specs.Meaning.{Meaning}
use Rattle.tray.specs.Holding.{Held, places, KeepsRest}
use Rattle.tray.specs.declared.triangle.Triangle.{Triangle}
use Rattle.session.specs.Worlds.{World, tray_at}
use Rattle.session.specs.Calls.{Made, Runs}
use Rattle.session.specs.declared.call.Answer.{Answer}
use Rattle.session.specs.declared.call.Answer.TheVariants.{Opened, Drawn, Closed, Emptied}
use Rattle.session.specs.declared.call.Call.{Call}
use Rattle.session.specs.declared.call.Call.TheVariants.{Open, Draw, DrawOther, Close, Empty}
use Rattle.session.specs.declared.call.Entry.{Entry}
use Rattle.session.specs.declared.state.State.{State}
use Rattle.session.specs.declared.state.State.TheVariants.{Unopened}

-- A tray has as many places as before, and whatever it stands over past the triangles that it now holds is as it was.
pub record Kept {T : Type 0} (holds : T → Held) (keeps : ℕ → T → T → Type 0) (before after : T) : Type 0 where
  pub same : places (holds after) ≡ places (holds before)
  pub rest : KeepsRest holds keeps before after

-- One tray of a list is kept, and no other is touched.
pub record OneKept {T : Type 0} (holds : T → Held) (keeps : ℕ → T → T → Type 0) (t : ℕ) (before after : List T) : Type 0 where
  pub tray : T
  pub only : after ≡ slice_set before t tray
  pub kept : (d : T) → Kept holds keeps (slice_index_or before t d) tray

-- What holds where a draw is refused.
abbrev pub WhereRefused : Answer → Type 0 → Type 0
WhereRefused (Drawn (Err e)) X = X
WhereRefused (Drawn (Ok p)) X = Unit {0}
WhereRefused (Opened r) X = Unit {0}
WhereRefused (Closed r) X = Unit {0}
WhereRefused Emptied X = Unit {0}

-- A call that names a tray keeps it, and touches no other; a refused draw touches none, and neither does a call that is not made.
abbrev pub LeavesBut : {T : Type 0} → (T → Held) → (ℕ → T → T → Type 0) → ℕ → Option Answer → List T → List T → Type 0
LeavesBut holds keeps t (Some a) before after = OneKept holds keeps t before after × WhereRefused a (after ≡ before)
LeavesBut holds keeps t None before after = after ≡ before

-- What a call leaves of the trays. An opening and a closing touch none.
abbrev pub Leaves : {T : Type 0} → (T → Held) → (ℕ → T → T → Type 0) → Call → Option Answer → List T → List T → Type 0
Leaves holds keeps (Open asked) a before after = after ≡ before
Leaves holds keeps (Draw t budget) a before after = LeavesBut holds keeps t a before after
Leaves holds keeps (DrawOther o t budget) a before after = LeavesBut holds keeps t a before after
Leaves holds keeps Close a before after = after ≡ before
Leaves holds keeps (Empty t) a before after = LeavesBut holds keeps t a before after

-- How things stand between two calls, with the trays themselves and not only what they hold.
pub record Standing (T : Type 0) : Type 0 where
  pub state : State
  pub trays : List T
  pub laid : List Triangle

-- What the calls see of it, and how it is before the first call.
abbrev pub world_of : {T : Type 0} → (T → Held) → Standing T → World
world_of holds s = record { state = s.state; trays = map holds s.trays; laid = s.laid }

abbrev pub start_on : {T : Type 0} → List T → Standing T
start_on trays = record { state = Unopened; trays = trays; laid = [] }

-- A list of calls is made one after the other, each where the one before left things, the trays themselves included.
abbrev pub RunsOn : {T : Type 0} → Meaning → List Meaning → (T → Held) → (ℕ → T → T → Type 0) → Standing T → List Entry → Standing T → Type 0
RunsOn m others holds keeps s [] s' = s' ≡ s
RunsOn {T} m others holds keeps s (e ∷ es) s' =
    (u : Standing T) × Made m others (world_of holds s) e.call e.answer (world_of holds u)
    × Leaves holds keeps e.call e.answer s.trays u.trays × RunsOn m others holds keeps u es s'

-- After no call of a list, or at the start where there is none, does a tray hold more than n triangles.
abbrev pub HoldsAtMost : Meaning → List Meaning → World → List Entry → ℕ → ℕ → Type 0
HoldsAtMost m others w es t n = (k : ℕ) (v : World) → Runs m others w (take (suc k) es) v → length (tray_at v.trays t).list ≤ n

-- Through a list of calls each tray has as many places as before, and whatever it stands over past them is as it was; so is
-- whatever it stands over past the greatest number of triangles that it holds after any of the calls.
pub record AllKept {T : Type 0} (m : Meaning) (others : List Meaning) (holds : T → Held) (keeps : ℕ → T → T → Type 0) (s : Standing T) (es : List Entry) (after : List T) : Type 0 where
  pub many : length after ≡ length s.trays
  pub same : (t : ℕ) (d : T) → places (holds (slice_index_or after t d)) ≡ places (holds (slice_index_or s.trays t d))
  pub past : (t : ℕ) (d : T) → keeps (places (holds (slice_index_or s.trays t d))) (slice_index_or s.trays t d) (slice_index_or after t d)
  pub rest : (t n : ℕ) (d : T) → HoldsAtMost m others (world_of holds s) es t n → keeps n (slice_index_or s.trays t d) (slice_index_or after t d)
