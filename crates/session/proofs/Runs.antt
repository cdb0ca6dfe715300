-- Calls made one after the other. Assumes nothing.
use Rattle.std.proofs.Common.{◌≡◌, ℕ, ◌+◌, ◌<◌, List, [], ◌∷◌, ◌++◌, length, get_or, take, set, Option, sym, refl, ap, ◌∙◌, subst}
use Rattle.std.proofs.lemmas.List.{get_or-map, map-set, set-get_or, take_more_set}
use Rattle.scan.specs.Meaning.{Meaning}
use Rattle.tray.specs.Holding.{Held}
use Rattle.tray.specs.declared.triangle.Triangle.{Triangle}
use Rattle.session.specs.Calls.{Made, Runs}
use Rattle.session.specs.Keeping.{Leaves, Standing, world_of, RunsOn}
use Rattle.session.specs.Ways.{calls_of}
use Rattle.session.specs.declared.call.Answer.{Answer}
use Rattle.session.specs.declared.call.Call.{Call}
use Rattle.session.specs.declared.call.Entry.{Entry}
use Rattle.session.specs.declared.state.State.{State}

-- An entry with its answer.
abbrev pub entry : Call → Option Answer → Entry
entry c a = record { call = c; answer = a }

-- How things stand, by its parts.
abbrev pub standing : {T : Type 0} → State → List T → List Triangle → Standing T
standing state trays laid = record { state = state; trays = trays; laid = laid }

-- An answer written beside a call leaves the calls as they are.
pub same_calls : (es : List Entry) (i : ℕ) (a : Option Answer) (d : Entry) → i < length es → calls_of (set es i (entry (get_or es i d).call a)) ≡ calls_of es
same_calls es i a d h =
    map-set (λ e. e.call) es i (entry (get_or es i d).call a)
    ∙ ap (set (calls_of es) i) (sym (get_or-map (λ e. e.call) es i d d.call h))
    ∙ set-get_or (calls_of es) i d.call

module _ {T : Type 0} (m : Meaning) (others : List Meaning) (holds : T → Held) (keeps : ℕ → T → T → Type 0) where
  -- What the trays hold goes along.
  pub runs_of : (s s' : Standing T) (es : List Entry) → RunsOn m others holds keeps s es s' → Runs m others (world_of holds s) es (world_of holds s')
  runs_of s s' [] h = ap (world_of holds) h
  runs_of s s' (e ∷ es) (u, made, leaves, runs) = (world_of holds u, made, runs_of u s' es runs)

  -- A call is made, and leaves the trays as it may.
  abbrev pub StepOn : Standing T → Call → Option Answer → Standing T → Type 0
  StepOn s c a s' = Made m others (world_of holds s) c a (world_of holds s') × Leaves holds keeps c a s.trays s'.trays

  -- One call more at the end.
  runs_more : (s u v : Standing T) (es : List Entry) (e : Entry)
      → RunsOn m others holds keeps s es u → StepOn u e.call e.answer v → RunsOn m others holds keeps s (es ++ e ∷ []) v
  runs_more s u v [] e h step =
      let there = subst (λ (x : Standing T). StepOn x e.call e.answer v) h step in
      (v, there.0, there.1, refl)
  runs_more s u v (d ∷ es) e (w, made, leaves, runs) step = (w, made, leaves, runs_more w u v es e runs step)

  -- The next call of a list.
  pub runs_next : (s u v : Standing T) (es : List Entry) (i : ℕ) (a : Option Answer) (d : Entry) → i < length es
      → RunsOn m others holds keeps s (take i es) u → StepOn u (get_or es i d).call a v
      → RunsOn m others holds keeps s (take (i + 1) (set es i (entry (get_or es i d).call a))) v
  runs_next s u v es i a d lt h step =
      let e = entry (get_or es i d).call a in
      subst (λ (l : List Entry). RunsOn m others holds keeps s l v) (sym (take_more_set es i e lt)) (runs_more s u v (take i es) e h step)
