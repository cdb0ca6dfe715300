-- Drawing on by draws of one budget. Assumes nothing.
use Rattle.std.proofs.Common.{◌≡◌, ℕ, ◌+◌, ◌-◌, ◌*◌, ◌<◌, ◌≤◌, [], ◌++◌, map, length, Ok, Result, Some, None, inl, inr, sym, refl, ap, ◌∙◌, subst, ⊎_elim, arith, length-append, ◌≢◌}
use lib.ListN.{length-map}
use mathlib.Core.List.{map-append}
use Rattle.std.proofs.lemmas.Bool.{cases_lt}
use Rattle.std.proofs.Math.Nat.{suc-mul}
use Rattle.std.proofs.lemmas.Option.{none-some}
use Rattle.std.specs.Option.{unwrap_or}
use Rattle.grid.specs.Cubes.{cube_count}
use Rattle.grid.specs.declared.sides.Sides.{Sides}
use Rattle.scan.specs.Meaning.{Meaning}
use Rattle.tray.specs.Holding.{Held}
use Rattle.surface.specs.Laid.{laid, laid_at}
use Rattle.surface.specs.Places.{low_of}
use Rattle.drawing.specs.Draws.{Drawn, Draws, Ends}
use Rattle.drawing.specs.Endings.{ending_number}
use Rattle.drawing.specs.Laying.{corners, surface, cube_lays, Halts, Readable}
use Rattle.drawing.specs.Solids.{solids_of}
use Rattle.drawing.specs.declared.drawing.Drawing.{Drawing}
use Rattle.drawing.specs.declared.progress.DrawRefusal.{DrawRefusal}
use Rattle.drawing.specs.declared.progress.Ending.{Ending}
use Rattle.drawing.specs.declared.progress.Ending.TheVariants.{Done, Budget, Lacking, Full}
use Rattle.drawing.specs.declared.progress.Progress.{Progress}
use Rattle.exported.specs.Drawings.{ByDraws, Drew, Stops, last_number}
use Rattle.exported.specs.declared.told.Told.{Told}

-- A drawing d stands at e after so many draws that each used up their budget, with the triangles in a tray.
pub record Sofar (m : Meaning) (d : Drawing) (budget places : ℕ) (e : Drawing) (h : Held) (draws : ℕ) : Type 0 where
  pub sides : e.sides ≡ d.sides
  pub test : e.test ≡ d.test
  pub pair : e.pair ≡ d.pair
  pub read : (c : ℕ) → c < e.cubes → Readable m (low_of d.sides c)
  pub rules : map corners h.list ≡ surface m d e.cubes
  pub fits : length h.list + h.free ≡ places
  pub left : e.cubes < cube_count d.sides
  pub all : e.cubes ≡ draws * budget
  pub few : draws ≤ e.cubes

module _ (m : Meaning) (d : Drawing) (budget places : ℕ) (e f : Drawing) (h g : Held) (draws : ℕ) (p : Progress)
    (before : Sofar m d budget places e h draws) (drawn : Drawn m budget e h p f g) where
  same_surface : (n : ℕ) → surface m e n ≡ surface m d n
  same_surface n i = laid (before.sides i) (before.pair i) (solids_of (before.test i) m) n

  list_is : g.list ≡ h.list ++ drawn.triangles
  list_is = ap (λ x. x.list) drawn.tray

  fit : length drawn.triangles ≤ h.free
  fit =
      omega (
        arith,
        drawn.cubes.holds.room,
        ap length drawn.rules,
        length-append (surface m e e.cubes) (map corners drawn.triangles),
        length-map drawn.triangles corners,
      )

  pub fits_after : length g.list + g.free ≡ places
  fits_after = omega (arith, fit, ap length list_is, length-append h.list drawn.triangles, ap (λ x. x.free) drawn.tray, before.fits)

  pub rules_after : map corners g.list ≡ surface m d f.cubes
  rules_after =
      ap (map corners) list_is
      ∙ map-append corners h.list drawn.triangles
      ∙ ap (λ l. l ++ map corners drawn.triangles) (before.rules ∙ sym (same_surface e.cubes))
      ∙ sym drawn.rules
      ∙ same_surface (e.cubes + p.drawn)
      ∙ ap (surface m d) (sym drawn.cubes_after)

  pub read_after : (c : ℕ) → c < f.cubes → Readable m (low_of d.sides c)
  read_after c lt =
      ⊎_elim (λ below. before.read c below)
      (λ above. subst (λ (s : Sides). Readable m (low_of s c)) before.sides (drawn.cubes.holds.read c above (omega (arith, drawn.cubes_after))))
      (cases_lt c e.cubes)

  cubes_same : (n : ℕ) → length (cube_lays m e n) ≡ length (cube_lays m d n)
  cubes_same n i = length (laid_at (before.sides i) (before.pair i) (solids_of (before.test i) m) (low_of (before.sides i) n))

  -- What halts the one halts the other.
  halts_same : (n free : ℕ) (x : Ending) → Halts m e n free x → Halts m d n free x
  halts_same n free Done h = h
  halts_same n free Budget h = h
  halts_same n free (Lacking cube fault) h = (h.0 ∙ ap (λ s. low_of s n) before.sides, h.1)
  halts_same n free (Full triangles told) h =
      (subst (λ (s : Sides). Readable m (low_of s n)) before.sides h.0, h.1 ∙ cubes_same n, h.2, h.3)

  -- A draw that used up its budget.
  pub sofar_more : 0 < budget → p.ending ≡ Budget → Sofar m d budget places f g (draws + 1)
  sofar_more some is =
      let ends = subst (λ (x : Ending). Ends m e budget p.drawn g.free x) is drawn.ending in
      record {
        sides = drawn.same_sides ∙ before.sides;
        test = drawn.same_test ∙ before.test;
        pair = drawn.same_pair ∙ before.pair;
        read = read_after;
        rules = rules_after;
        fits = fits_after;
        left = omega (arith, drawn.cubes_after, ends.0, ap cube_count before.sides);
        all = omega (arith, drawn.cubes_after, ends.1, before.all, suc-mul draws budget);
        few = omega (arith, drawn.cubes_after, ends.1, before.few, some);
      }

  module _ (n cubes : ℕ) (at : cubes ≡ e.cubes + p.drawn) where
    free_is : g.free ≡ places - length g.list
    free_is = omega (arith, fits_after)

    halted : (x : Ending) → p.drawn < budget → (e.cubes + p.drawn < cube_count e.sides) → Halts m e (e.cubes + p.drawn) g.free x
        → ending_number x ≡ Some n → Stops m d cubes (places - length g.list) n
    halted x short within halts told = inr (record {
      within = omega (arith, at, within, ap cube_count before.sides);
      ending = x;
      halts =
          subst (λ (free : ℕ). Halts m d cubes free x) free_is
          (subst (λ (c : ℕ). Halts m d c g.free x) (sym at) (halts_same (e.cubes + p.drawn) g.free x halts));
      told = told;
    })

    -- Why the last draw ended is why it ends there.
    stops_at : (x : Ending) → Ends m e budget p.drawn g.free x → last_number x ≡ Some n → Stops m d cubes (places - length g.list) n
    stops_at Done h told = inl (sym (ap (λ o. unwrap_or o 0) told), at ∙ h ∙ ap cube_count before.sides)
    stops_at Budget h told = absurd (none-some n told)
    stops_at (Lacking cube fault) h told = halted (Lacking cube fault) h.1 h.0 h.2 told
    stops_at (Full triangles free) h told = halted (Full triangles free) h.1 h.0 h.2 told

    some_drawn : (x : Ending) → Ends m e budget p.drawn g.free x → last_number x ≡ Some n → n ≡ 0 → 0 < p.drawn
    some_drawn Done h told none = omega (arith, h, before.left, ap cube_count before.sides)
    some_drawn Budget h told none = absurd (none-some n told)
    some_drawn (Lacking cube fault) h told none = absurd (omega (arith, none, ap (λ o. unwrap_or o 0) told))
    some_drawn (Full triangles free) h told none = absurd (omega (arith, none, ap (λ o. unwrap_or o 0) told))

    short_of : (x : Ending) → Ends m e budget p.drawn g.free x → last_number x ≡ Some n → n ≢ 0 → p.drawn < budget
    short_of Done h told other = absurd (other (sym (ap (λ o. unwrap_or o 0) told)))
    short_of Budget h told other = absurd (none-some n told)
    short_of (Lacking cube fault) h told other = h.1
    short_of (Full triangles free) h told other = h.1

    by_draws : (x : Ending) → Ends m e budget p.drawn g.free x → last_number x ≡ Some n → ByDraws budget cubes (draws + 1) n
    by_draws x h told = record {
      earlier = draws;
      last = p.drawn;
      counted = refl;
      all = omega (arith, at, before.all);
      within = drawn.cubes.holds.budgeted;
      some = some_drawn x h told;
      short = short_of x h told;
    }

  -- The last draw.
  pub drew : (told : Told) → last_number p.ending ≡ Some told.refusal → told.cubes ≡ f.cubes → told.draws ≡ draws + 1 → told.triangles ≡ length g.list
      → Drew m d budget places told g.list
  drew told number cubes count triangles =
      let at : told.cubes ≡ e.cubes + p.drawn = cubes ∙ drawn.cubes_after in
      record {
        read = λ c lt. read_after c (omega (arith, lt, cubes));
        rules = rules_after ∙ ap (surface m d) (sym cubes);
        count = triangles;
        room = omega (arith, fits_after);
        stops = stops_at told.refusal told.cubes at p.ending drawn.ending number;
        draws = subst (λ (k : ℕ). ByDraws budget told.cubes k told.refusal) (sym count) (by_draws told.refusal told.cubes at p.ending drawn.ending number);
      }

-- A draw that is not refused.
pub drawn_of : (m : Meaning) (budget : ℕ) (d e : Drawing) (h g : Held) (r : Result Progress DrawRefusal) (p : Progress) → r ≡ Ok p → Draws m budget d h r e g → Drawn m budget d h p e g
drawn_of m budget d e h g r p is law = (subst (λ (x : Result Progress DrawRefusal). Draws m budget d h x e g) is law).2

-- Before the first draw.
pub sofar_none : (m : Meaning) (d : Drawing) (budget : ℕ) (h : Held) → d.cubes ≡ 0 → 0 < cube_count d.sides → h.list ≡ [] → Sofar m d budget h.free d h 0
sofar_none m d budget h none some empty = record {
  sides = refl;
  test = refl;
  pair = refl;
  read = λ c lt. absurd (omega (arith, lt, none));
  rules = ap (map corners) empty ∙ ap (surface m d) (sym none);
  fits = omega (arith, ap length empty);
  left = omega (arith, none, some);
  all = omega (arith, none);
  few = omega arith;
}

-- Only where a draw used up its budget it is not the last.
pub goes_on : (x : Ending) → last_number x ≡ None → x ≡ Budget
goes_on Done h = absurd (none-some 0 (sym h))
goes_on Budget h = refl
goes_on (Lacking cube fault) h = absurd (none-some 11 (sym h))
goes_on (Full triangles free) h = absurd (none-some 12 (sym h))
