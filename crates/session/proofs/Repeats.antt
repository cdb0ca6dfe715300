-- A list of calls made by a way, on trays that begin alike, answers the same and lays alike. Assumes nothing.
use Rattle.std.proofs.Common.{◌≡◌, List, [], ◌∷◌, map, length, refl, ap, subst, ap₂, arith}
use Rattle.scan.specs.Meaning.{Meaning}
use Rattle.tray.specs.Holding.{Held}
use Rattle.session.specs.Worlds.{World, start}
use Rattle.session.specs.Calls.{Made, Runs}
use Rattle.session.specs.Ways.{Way, call_by, calls_of, answers_of, Repeats}
use Rattle.session.specs.declared.call.Entry.{Entry}
use Rattle.session.proofs.Likewise.{carried}
use Rattle.session.proofs.Alike.{unopened, Alike}
use Rattle.session.proofs.Steps.{made_alike}

module _ (way : Way) (m : Meaning) (others : List Meaning) where
  -- Call by call the answers are the same, and things stay alike.
  runs_alike : (es es' : List Entry) (w w' v v' : World) → Alike way m w w' → calls_of es' ≡ map (call_by way) (calls_of es)
      → Runs m others w es v → Runs m others w' es' v' → (answers_of es' ≡ answers_of es) × Alike way m v v'
  runs_alike [] [] w w' v v' like calls runs runs' = (refl, carried (Alike way m) runs runs' like)
  runs_alike [] (e' ∷ es') w w' v v' like calls runs runs' = absurd (omega (arith, ap length calls))
  runs_alike (e ∷ es) [] w w' v v' like calls runs runs' = absurd (omega (arith, ap length calls))
  runs_alike (e ∷ es) (e' ∷ es') w w' v v' like calls (u, made, runs) (u', made', runs') =
      let first : e'.call ≡ call_by way e.call = cc in
      let others-after : calls_of es' ≡ map (call_by way) (calls_of es) = cc in
      let step =
      made_alike way m others w w' like e.answer e'.answer u u' e.call made
      (subst (λ c. Made m others w' c e'.answer u') first made') in
      let rest = runs_alike es es' u u' v v' step.1 others-after runs runs' in
      (ap₂ (λ b bs. b ∷ bs) step.0 rest.0, rest.1)

-- From the start on, whatever the list of calls.
pub repeats : (m : Meaning) (others : List Meaning) (trays : List Held) (es : List Entry) (w : World)
    → Runs m others (start trays) es w → Repeats m others trays es w
repeats m others trays es w runs way trays' es' w' like calls runs' =
    let both =
    runs_alike way m others es es' (start trays) (start trays') w w'
    (record { states = unopened; trays = like; laid = refl }) calls runs runs' in
    record { answers = both.0; laid = both.1.laid; trays = both.1.trays }
