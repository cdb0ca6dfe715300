-- What calls leave of the trays themselves. Assumes nothing.
use Rattle.std.proofs.Common.{◌≡◌, ℕ, suc, ◌<◌, ◌≤◌, ◌⊎◌, List, [], ◌∷◌, map, length, get_or, set, Ok, Err, IfErr, Result, Some, None, Option, sym, refl, ap, ◌∙◌, subst, inl, inr, ⊎_elim, arith, length-append, length-set, get_or-set_other, get_or-set_same}
use lib.ListN.{length-map}
use Rattle.std.proofs.lemmas.List.{get_or_default, get_or_past, set-get_or}
use Rattle.std.proofs.lemmas.Bool.{cases_eq, cases_lt}
use Rattle.scan.specs.Meaning.{Meaning}
use Rattle.tray.specs.Holding.{Held, Lawful, places, KeepsRest}
use Rattle.tray.proofs.Trays.{places_all}
use Rattle.drawing.specs.Draws.{Draws}
use Rattle.drawing.specs.Laying.{corners, surface}
use Rattle.drawing.specs.declared.drawing.Drawing.{Drawing}
use Rattle.drawing.specs.declared.progress.DrawRefusal.{DrawRefusal}
use Rattle.drawing.specs.declared.progress.DrawRefusal.TheVariants.{OtherSides, ZeroBudget}
use Rattle.drawing.specs.declared.progress.Progress.{Progress}
use Rattle.session.specs.Keeping.{Kept, OneKept, LeavesBut, Leaves, WhereRefused, Standing, world_of, RunsOn, AllKept}
use Rattle.session.specs.declared.call.Answer.{Answer}
use Rattle.session.specs.declared.call.Answer.TheVariants.{Drawn}
use Rattle.session.specs.declared.call.Call.{Call}
use Rattle.session.specs.declared.call.Call.TheVariants.{Open, Draw, DrawOther, Close, Empty}
use Rattle.session.specs.declared.call.Entry.{Entry}
use Rattle.session.proofs.Stepping.{at_tray}

-- A draw changes no tray's number of places.
pub draw_places : (m : Meaning) (budget : ℕ) (d d' : Drawing) (h h' : Held) (r : Result Progress DrawRefusal)
    → Draws m budget d h r d' h' → places h' ≡ places h
draw_places m budget d d' h h' (Ok p) law =
    let drawn = law.2 in
    let ts = drawn.triangles in
    let fit : length ts ≤ h.free =
    omega (arith, drawn.cubes.holds.room, ap length drawn.rules, length-append (surface m d d.cubes) (map corners ts), length-map ts corners) in
    ap places drawn.tray ∙ places_all h ts fit
draw_places m budget d d' h h' (Err OtherSides) law = ap places law.2
draw_places m budget d d' h h' (Err ZeroBudget) law = ap places law.3

-- A refused draw leaves the list as it was.
pub untouched : {T : Type 0} (xs : List T) (i : ℕ) (x y : T) (r : Result Progress DrawRefusal) → IfErr r (λ e. y ≡ get_or xs i x) → WhereRefused (Drawn r) (set xs i y ≡ xs)
untouched xs i x y (Ok p) h = tt
untouched xs i x y (Err e) h = ap (set xs i) h ∙ set-get_or xs i x

module _ {T : Type 0} (holds : T → Held) (keeps : ℕ → T → T → Type 0) where
  -- One tray of a list changes.
  pub one_kept : (xs : List T) (i : ℕ) (x y : T) → i < length xs → places (holds y) ≡ places (holds (get_or xs i x)) → KeepsRest holds keeps (get_or xs i x) y
      → OneKept holds keeps i xs (set xs i y)
  one_kept xs i x y lt same rest =
      let k : Kept holds keeps (get_or xs i x) y = record { same = same; rest = rest } in
      record { tray = y; only = refl; kept = λ d. subst (λ (z : T). Kept holds keeps z y) (get_or_default xs i x d lt) k }

  -- A call touches no tray, or keeps one.
  abbrev pub Changed : List T → List T → Type 0
  Changed xs ys = (ys ≡ xs) ⊎ ((i : ℕ) × OneKept holds keeps i xs ys)

  changed_but : (i : ℕ) (a : Option Answer) (xs ys : List T) → LeavesBut holds keeps i a xs ys → Changed xs ys
  changed_but i None xs ys h = inl h
  changed_but i (Some a) xs ys h = inr (i, h.0)

  pub changed : (c : Call) (a : Option Answer) (xs ys : List T) → Leaves holds keeps c a xs ys → Changed xs ys
  changed (Open asked) a xs ys h = inl h
  changed (Draw i budget) a xs ys h = changed_but i a xs ys h
  changed (DrawOther o i budget) a xs ys h = changed_but i a xs ys h
  changed Close a xs ys h = inl h
  changed (Empty i) a xs ys h = changed_but i a xs ys h

  pub as_many : (xs ys : List T) → Changed xs ys → length ys ≡ length xs
  as_many xs ys (inl e) = ap length e
  as_many xs ys (inr (i, one)) = ap length one.only ∙ length-set xs i one.tray

  -- Each tray of the list is the same, or it is there and kept.
  abbrev Left : List T → List T → ℕ → T → Type 0
  Left xs ys t d = (get_or ys t d ≡ get_or xs t d) ⊎ ((t < length ys) × Kept holds keeps (get_or xs t d) (get_or ys t d))

  left_at : (xs : List T) (i : ℕ) (y d : T) → Kept holds keeps (get_or xs i d) y → ((i < length xs) ⊎ (length xs ≤ i)) → Left xs (set xs i y) i d
  left_at xs i y d k (inr past) = inl (get_or_past (set xs i y) i d (omega (arith, length-set xs i y)) ∙ sym (get_or_past xs i d past))
  left_at xs i y d k (inl lt) = inr (omega (arith, length-set xs i y), subst (Kept holds keeps (get_or xs i d)) (sym (get_or-set_same xs i y d lt)) k)

  left_set : (xs : List T) (i : ℕ) (y : T) → ((d : T) → Kept holds keeps (get_or xs i d) y) → (t : ℕ) (d : T) → Left xs (set xs i y) t d
  left_set xs i y k t d =
      ⊎_elim
      (λ (e : t ≡ i). subst (λ (j : ℕ). Left xs (set xs i y) j d) (sym e) (left_at xs i y d (k d) (cases_lt i (length xs))))
      (λ (ne : t ≡ i → ⊥). inl (get_or-set_other xs i t y d ne))
      (cases_eq t i)

  left : (xs ys : List T) → Changed xs ys → (t : ℕ) (d : T) → Left xs ys t d
  left xs ys (inl e) t d = inl (ap (λ (l : List T). get_or l t d) e)
  left xs ys (inr (i, one)) t d = subst (λ (l : List T). Left xs l t d) (sym one.only) (left_set xs i one.tray one.kept t d)

  same_left : (xs ys : List T) (t : ℕ) (d : T) → Left xs ys t d → places (holds (get_or ys t d)) ≡ places (holds (get_or xs t d))
  same_left xs ys t d (inl e) = ap (λ (x : T). places (holds x)) e
  same_left xs ys t d (inr h) = h.1.same

  module _ (lawful : Lawful holds keeps) where
    -- All past n places of a tray is as it was, if the tray holds no more, or has no more places.
    rest_left : (xs ys : List T) (t n : ℕ) (d : T) → Left xs ys t d → (t < length ys → length (holds (get_or ys t d)).list ≤ n)
        → keeps n (get_or xs t d) (get_or ys t d)
    rest_left xs ys t n d (inl e) few = subst (keeps n (get_or xs t d)) (sym e) (lawful.stays n (get_or xs t d))
    rest_left xs ys t n d (inr h) few =
        let y = get_or ys t d in
        lawful.steps _ n n (get_or xs t d) y y (few h.0) (omega arith) h.1.rest (lawful.stays n y)

    -- Each tray is kept.
    pub each_kept : (xs ys : List T) → Changed xs ys → (t : ℕ) (d : T) → Kept holds keeps (get_or xs t d) (get_or ys t d)
    each_kept xs ys one t d =
        let x = get_or xs t d in
        let still : Kept holds keeps x x = record { same = refl; rest = lawful.stays _ x } in
        ⊎_elim (λ e. subst (Kept holds keeps x) (sym e) still) (λ h. h.1) (left xs ys one t d)

    -- Each call keeps the trays, and so does the list.
    pub all_kept : (m : Meaning) (others : List Meaning) (s s' : Standing T) (es : List Entry)
        → RunsOn m others holds keeps s es s' → AllKept m others holds keeps s es s'.trays
    all_kept m others s s' [] h =
        let still : AllKept m others holds keeps s [] s.trays = record {
          many = refl;
          same = λ t d. refl;
          past = λ t d. lawful.stays _ _;
          rest = λ t n d most. lawful.stays n _;
        } in
        subst (λ (u : Standing T). AllKept m others holds keeps s [] u.trays) (sym h) still
    all_kept m others s s' (e ∷ es) (u, made, leaves, runs) =
        let one = changed e.call e.answer s.trays u.trays leaves in
        let at = left s.trays u.trays one in
        let on = all_kept m others u s' es runs in
        let same : (t : ℕ) (d : T) → places (holds (get_or u.trays t d)) ≡ places (holds (get_or s.trays t d)) =
        λ t d. same_left s.trays u.trays t d (at t d) in
        record {
          many = on.many ∙ as_many s.trays u.trays one;
          same = λ t d. on.same t d ∙ same t d;
          past = λ t d.
              let k = places (holds (get_or s.trays t d)) in
              lawful.steps k _ k _ _ _ (omega arith) (omega (arith, same t d))
              (rest_left s.trays u.trays t k d (at t d) (λ there. omega (arith, same t d))) (on.past t d);
          rest = λ t n d most.
              lawful.steps n n n _ _ _ (omega arith) (omega arith)
              (rest_left s.trays u.trays t n d (at t d)
              (λ there. subst (λ (k : Held). length k.list ≤ n) (at_tray holds u.trays t d there) (most 0 (world_of holds u) (world_of holds u, made, refl))))
              (on.rest t n d (λ k v later. most (suc k) v (world_of holds u, made, later)));
        }
