-- What a list of calls has laid is the surface of the drawn cubes. Assumes nothing.
use Rattle.std.proofs.Common.{◌≡◌, ℕ, ◌<◌, List, [], ◌∷◌, ◌++◌, map, length, Ok, Err, Result, Option, sym, refl, ap, ◌∙◌, subst, ap₂, ⊎_elim, append-nil, arith, length-append}
use mathlib.Core.List.{map-append, append_cancel_left}
use Rattle.std.proofs.lemmas.Bool.{cases_lt}
use Rattle.grid.specs.Cubes.{cube_count}
use Rattle.grid.specs.declared.sides.Sides.{Sides}
use Rattle.cube.specs.Lists.{In}
use Rattle.scan.specs.Meaning.{Meaning}
use Rattle.tray.specs.Holding.{Held}
use Rattle.tray.specs.declared.triangle.Triangle.{Triangle}
use Rattle.surface.specs.Places.{low_of}
use Rattle.surface.specs.Laid.{laid, edges, back}
use Rattle.surface.specs.Fronts.{OneBorder}
use Rattle.surface.proofs.Together.{all_whole}
use Rattle.surface.proofs.Front.{closed}
use Rattle.drawing.specs.Opening.{Accepted, Opened as OpenedBy, origin}
use Rattle.drawing.specs.Closings.{Closes}
use Rattle.drawing.specs.Draws.{Draws, Drawn}
use Rattle.drawing.specs.Laying.{corners, surface, Readable}
use Rattle.drawing.specs.Solids.{solids_of}
use Rattle.drawing.specs.declared.asked.Asked.{Asked}
use Rattle.drawing.specs.declared.closed.Closed.{Closed}
use Rattle.drawing.specs.declared.cubes_left.CubesLeft.{CubesLeft}
use Rattle.drawing.specs.declared.drawing.Drawing.{Drawing}
use Rattle.drawing.specs.declared.letter.SolidTest.{SolidTest}
use Rattle.drawing.specs.declared.progress.DrawRefusal.{DrawRefusal}
use Rattle.drawing.specs.declared.progress.DrawRefusal.TheVariants.{OtherSides, ZeroBudget}
use Rattle.drawing.specs.declared.progress.Progress.{Progress}
use Rattle.drawing.specs.declared.refusal.OpenRefusal.{OpenRefusal}
use Rattle.session.specs.Worlds.{World, tray_at}
use Rattle.session.specs.Calls.{other_at, CanMake, Opening, DrawingOn, Closing, Answered, Made, Runs, open_after, close_after}
use Rattle.session.specs.Surfaces.{LaidFor, Shut, Surfaced}
use Rattle.session.specs.declared.call.Answer.{Answer}
use Rattle.session.specs.declared.call.Call.{Call}
use Rattle.session.specs.declared.call.Call.TheVariants.{Open, Draw, DrawOther, Close, Empty}
use Rattle.session.specs.declared.call.Entry.{Entry}
use Rattle.session.specs.declared.state.State.{State}
use Rattle.session.specs.declared.state.State.TheVariants.{Unopened, Opened}

module _ (m : Meaning) where
  -- What an opening accepts has a border of one kind, and nothing is laid for it.
  opened_border : (asked : Asked) (d : Drawing) → Accepted m asked d → OneBorder d.sides (solids_of d.test m)
  opened_border asked d h =
      let P : Sides → SolidTest → Type 0 = λ s t. OneBorder s (solids_of t m) in
      let there : P m.sides asked.test = (solids_of asked.test m origin, h.one_kind) in
      subst (λ (t : SolidTest). P d.sides t) (sym h.test) (subst (λ (s : Sides). P s asked.test) (sym h.sides) there)

  pub laid_none : (asked : Asked) (d : Drawing) → Accepted m asked d → LaidFor m d []
  laid_none asked d h =
      let whole = all_whole d.sides d.pair (solids_of d.test m) d.cubes d.within in
      let border = opened_border asked d h in
      record {
        of_scan = h.sides;
        border = border;
        read = λ n l. absurd (omega (arith, h.cubes));
        rules = sym (ap (surface m d) h.cubes);
        count = h.triangles;
        whole = whole;
        front = whole.front border;
      }

  -- A drawing of the same sides, test and pair is of the same surface.
  same_surface : (d d' : Drawing) → d'.sides ≡ d.sides → d'.test ≡ d.test → d'.pair ≡ d.pair → (n : ℕ) → surface m d' n ≡ surface m d n
  same_surface d d' sides test pair n i = laid (sides i) (pair i) (solids_of (test i) m) n

  -- What a draw lays goes on where the drawing stood.
  pub laid_more : (budget : ℕ) (d d' : Drawing) (h h' : Held) (p : Progress) (ts more : List Triangle)
      → Drawn m budget d h p d' h' → h'.list ≡ h.list ++ more → LaidFor m d ts → LaidFor m d' (ts ++ more)
  laid_more budget d d' h h' p ts more drawn put was =
      let us = drawn.triangles in
      let same : us ≡ more = append_cancel_left h.list us more (sym (ap (λ x. x.list) drawn.tray) ∙ put) in
      let next = same_surface d d' drawn.same_sides drawn.same_test drawn.same_pair in
      let read : (n : ℕ) → n < d'.cubes → Readable m (low_of d.sides n) =
      λ n l. ⊎_elim (was.read n) (λ ge. drawn.cubes.holds.read n ge (omega (arith, drawn.cubes_after))) (cases_lt n d.cubes) in
      let whole = all_whole d'.sides d'.pair (solids_of d'.test m) d'.cubes d'.within in
      let border : OneBorder d'.sides (solids_of d'.test m) =
      subst (λ (t : SolidTest). OneBorder d'.sides (solids_of t m)) (sym drawn.same_test) (subst (λ (s : Sides). OneBorder s (solids_of d.test m)) (sym drawn.same_sides) was.border) in
      record {
        of_scan = drawn.same_sides ∙ was.of_scan;
        border = border;
        read = λ n l. subst (λ (s : Sides). Readable m (low_of s n)) (sym drawn.same_sides) (read n l);
        rules =
            map-append corners ts more
            ∙ ap₂ (λ xs ys. xs ++ map corners ys) was.rules (sym same)
            ∙ sym drawn.rules
            ∙ ap (surface m d) (sym drawn.cubes_after)
            ∙ sym (next d'.cubes);
        count = omega (arith, drawn.triangles_after, drawn.laid, was.count, length-append ts more, ap length same);
        whole = whole;
        front = whole.front border;
      }

  -- Where nothing more goes into the tray and the drawing stays, so does what was laid.
  laid_still : (d d' : Drawing) (h h' : Held) (ts more : List Triangle) → d' ≡ d → h' ≡ h → h'.list ≡ h.list ++ more → LaidFor m d ts → LaidFor m d' (ts ++ more)
  laid_still d d' h h' ts more same held put was =
      let none : [] ≡ more = append_cancel_left h.list [] more (append-nil h.list ∙ sym (ap (λ x. x.list) held) ∙ put) in
      subst (λ (x : Drawing). LaidFor m x (ts ++ more)) (sym same)
      (subst (LaidFor m d) (sym (append-nil ts) ∙ ap (λ us. ts ++ us) none) was)

  -- A draw with a scan that is the one of the drawing, if it has the sides of it.
  draws_more : (n : Meaning) (budget : ℕ) (d d' : Drawing) (h h' : Held) (r : Result Progress DrawRefusal) (ts more : List Triangle)
      → (d.sides ≡ n.sides → n ≡ m) → Draws n budget d h r d' h' → h'.list ≡ h.list ++ more → LaidFor m d ts → LaidFor m d' (ts ++ more)
  draws_more n budget d d' h h' (Ok p) ts more own law put was =
      laid_more budget d d' h h' p ts more (subst (λ (k : Meaning). Drawn k budget d h p d' h') (own law.0) law.2) put was
  draws_more n budget d d' h h' (Err OtherSides) ts more own law put was = laid_still d d' h h' ts more law.1 law.2 put was
  draws_more n budget d d' h h' (Err ZeroBudget) ts more own law put was = laid_still d d' h h' ts more law.2 law.3 put was

  -- When all cubes are drawn, every edge is laid the other way too.
  shut : (d : Drawing) (ts : List Triangle) → d.cubes ≡ cube_count d.sides → LaidFor m d ts → Shut ts
  shut d ts all was =
      let whole : surface m d (cube_count d.sides) ≡ map corners ts = ap (surface m d) (sym all) ∙ sym was.rules in
      subst (λ (us : List (ℕ × ℕ × ℕ)). (e : ℕ × ℕ) → In e (edges us) → In (back e) (edges us)) whole
      (closed d.sides d.pair (solids_of d.test m) was.border)

  -- What holds of a world, and goes from each call to the next.
  abbrev Sound : World → Type 0
  Sound w = Surfaced m w.state w.laid

  -- The same at a state and a list that are equal.
  at_state : (w : World) (s : State) → w.state ≡ s → Sound w → Surfaced m s w.laid
  at_state w s e h = subst (λ (x : State). Surfaced m x w.laid) e h

  opening_sound : (asked : Asked) (w : World) (a : Option Answer) (v : World) → w.state ≡ Unopened → Opening m asked w a v → Sound w → Sound v
  opening_sound asked w a v e h was = subst Sound (sym h.after) (go h.result h.law)
    where
      go : (r : Result Drawing OpenRefusal) → OpenedBy m asked r → Sound (open_after w r)
      go (Ok d) law = subst (LaidFor m d) (sym (at_state w Unopened e was)) (laid_none asked d law)
      go (Err refusal) law = was

  drawing_sound : (n : Meaning) (t budget : ℕ) (w : World) (a : Option Answer) (v : World) → (m.sides ≡ n.sides → n ≡ m)
      → DrawingOn n t budget w a v → Sound w → Sound v
  drawing_sound n t budget w a v own h was =
      let laid = at_state w (Opened h.before) h.found was in
      subst Sound (sym h.after)
      (draws_more n budget h.before h.drawing (tray_at w.trays t) h.held h.result w.laid h.more (λ e. own (sym laid.of_scan ∙ e)) h.law h.put laid)

  closing_sound : (w : World) (a : Option Answer) (v : World) → Closing w a v → Sound w → Sound v
  closing_sound w a v h was = subst Sound (sym h.after) (go h.result h.law)
    where
      laid_now : LaidFor m h.before w.laid
      laid_now = at_state w (Opened h.before) h.found was

      go : (r : Result Closed CubesLeft) → Closes h.before r → Surfaced m (close_after r) w.laid
      go (Ok c) law =
          let kept = subst (λ (d : Drawing). LaidFor m d w.laid) (sym law.1) laid_now in
          (kept, shut c.drawing w.laid c.whole kept)
      go (Err e) law = subst (λ (d : Drawing). LaidFor m d w.laid) (sym law.1) laid_now

  answered_sound : (others : List Meaning) (w : World) (c : Call) (a : Option Answer) (v : World)
      → CanMake m others w c → Answered m others w c a v → Sound w → Sound v
  answered_sound others w (Open asked) a v can made was = opening_sound _ w a v can made was
  answered_sound others w (Draw t budget) a v can made was = drawing_sound m t budget w a v (λ e. refl) made was
  answered_sound others w (DrawOther o t budget) a v can made was =
      drawing_sound (other_at others m o) t budget w a v (λ e. absurd (can.3 (sym e))) made was
  answered_sound others w Close a v can made was = closing_sound w a v made was
  answered_sound others w (Empty t) a v can made was = subst Sound (sym made.1) was

  made_sound : (others : List Meaning) (w : World) (c : Call) (a : Option Answer) (v : World) → Made m others w c a v → Sound w → Sound v
  made_sound others w c a v made was =
      ⊎_elim (λ h. answered_sound others w c a v h.0 h.1 was) (λ h. subst Sound (sym h.2) was) made

  -- So it holds at the end of every list of calls.
  pub surfaced : (others : List Meaning) (w v : World) (es : List Entry) → Runs m others w es v → Sound w → Sound v
  surfaced others w v [] h was = subst Sound (sym h) was
  surfaced others w v (e ∷ es) h was =
      surfaced others h.0 v es h.2 (made_sound others w e.call e.answer h.0 h.1 was)
