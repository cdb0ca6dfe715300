-- Cubes drawn in a row: none yet, one more, and the most that may be. Assumes nothing.
use Rattle.std.proofs.Common.{◌≡◌, ℕ, cond, ◌==◌, zero, suc, ◌+◌, ◌-◌, ◌<◌, ◌≤◌, min, eqb, ◌⊎◌, [], ◌++◌, map, length, is_ok, Some, None, Ok, Option, sym, refl, ap, ◌∙◌, subst, ap₂, ⊎_elim, append_assoc, append-nil, eq-or-lt_of_le, arith, length-append, MatchOption}
use mathlib.Core.List.{map-append}
use lib.ListN.{length-map}
use Rattle.std.proofs.lemmas.Bool.{false≢true, cases_lt, cond_both, eqb-true, eqb-false}
use Rattle.std.specs.Option.{unwrap_or}
use Rattle.grid.specs.Cubes.{cube_count}
use Rattle.grid.specs.declared.sides.Sides.{Sides}
use Rattle.grid.specs.declared.voxel.Voxel.{Voxel}
use Rattle.grid.proofs.Numbering.{count_bound}
use Rattle.scan.specs.Meaning.{Meaning}
use Rattle.scan.specs.declared.fault.Fault.{Fault}
use Rattle.tray.specs.Holding.{Held, Lawful}
use Rattle.tray.proofs.Trays.{laid_none}
use Rattle.surface.specs.Places.{low_of}
use Rattle.surface.proofs.Rule.{laid_next}
use Rattle.drawing.specs.Draws.{Allowed, Greatest, Ends, Drawn}
use Rattle.drawing.specs.Laying.{corners, surface, cube_lays, Readable, FirstFault, Halts, CubeLaid}
use Rattle.drawing.specs.Solids.{solids_of}
use Rattle.drawing.specs.Stretches.{Reached, Stretched}
use Rattle.drawing.specs.declared.drawing.Drawing.{Drawing}
use Rattle.drawing.specs.declared.stretch.Stretch.{Stretch}
use Rattle.drawing.specs.declared.progress.Ending.{Ending}
use Rattle.drawing.specs.declared.progress.Ending.TheVariants.{Done, Budget, Lacking, Full}
use Rattle.drawing.proofs.Lays.{laid_both}

-- How a draw ends: where no cube stopped it, it is done if none is left, and else its budget is used up.
abbrev ending_of : Option Ending → ℕ → Ending
ending_of (Some e) left = e
ending_of None left = cond (left == 0) Done Budget

-- A scan has at most 256 to the third cubes.
pub cubes_bound : (s : Sides) → cube_count s ≤ 16777216
cubes_bound s =
    count_bound (s.x - 1) (s.y - 1) (s.z - 1) (omega (arith, s.fits)) (omega (arith, s.fits)) (omega (arith, s.fits))

-- A cube that can be read has no first fault.
pub no_fault : (m : Meaning) (low : Voxel) (f : Fault) → Readable m low → FirstFault m low f → ⊥
no_fault m low f read first =
    false≢true (sym (ap is_ok (ap m.at (sym first.1.place) ∙ first.1.lacks)) ∙ read first.1.index first.1.cube)

module _ (m : Meaning) (d : Drawing) where
  -- One cube more lays its triangles after the others, and more cubes lay no fewer.
  pub surface_next : (n : ℕ) → surface m d (n + 1) ≡ surface m d n ++ cube_lays m d n
  surface_next n = laid_next d.sides d.pair (solids_of d.test m) n

  pub surface_grows : (a b : ℕ) → a ≤ b → length (surface m d a) ≤ length (surface m d b)
  surface_grows a zero h = let e : a ≡ 0 = omega arith in omega (arith, ap (λ n. length (surface m d n)) e)
  surface_grows a (suc b) h =
      ⊎_elim (λ e. omega (arith, ap (λ n. length (surface m d n)) e))
      (λ l. let le : a ≤ b = omega arith in omega (arith, surface_grows a b le, length-append (surface m d b) (cube_lays m d b)))
      (eq-or-lt_of_le h)

module _ {S : Type 0} {holds : S → Held} {keeps : ℕ → S → S → Type 0} (lawful : Lawful holds keeps) (m : Meaning) (d : Drawing) where
  -- Before the first cube nothing is laid.
  pub reached_none : (s : S) → Reached holds keeps m d d.cubes s s 0
  reached_none s =
      let none = laid_none lawful s in
      record {
        triangles = [];
        rules = sym (append-nil (surface m d d.cubes));
        read = λ c h k. absurd (omega arith);
        fit = none.fit;
        list = none.list;
        rest = none.rest;
        count = refl;
        few = omega arith;
      }

  -- One cube more.
  pub reached_more : (n : ℕ) (s e f : S) (before count : ℕ) → Reached holds keeps m d n s e before → CubeLaid holds keeps m d n e f (Ok count)
      → Reached holds keeps m d (n + 1) s f (before + count)
  reached_more n s e f before count h cube =
      let ts = h.triangles in
      let us = cube.3.triangles in
      let old = surface m d d.cubes in
      let both = laid_both lawful s e f ts us (record { fit = h.fit; list = h.list; rest = h.rest }) (record { fit = cube.3.fit; list = cube.3.list; rest = cube.3.rest }) in
      let new : length us ≡ count = sym (length-map us corners) ∙ ap length cube.3.corner ∙ sym cube.1 in
      record {
        triangles = ts ++ us;
        rules =
            surface_next m d n
            ∙ ap₂ (λ xs ys. xs ++ ys) h.rules (sym cube.3.corner)
            ∙ append_assoc old (map corners ts) (map corners us)
            ∙ ap (λ l. old ++ l) (sym (map-append corners ts us));
        read = λ c lo hi.
            ⊎_elim (λ e. subst (λ k. Readable m (low_of d.sides k)) (sym e) cube.0) (λ l. h.read c lo l)
            (last c hi);
        fit = both.fit;
        list = both.list;
        rest = both.rest;
        count = omega (arith, h.count, new, length-append ts us);
        few = omega (arith, h.few, cube.2);
      }
    where
      last : (c : ℕ) → c < n + 1 → (c ≡ n) ⊎ (c < n)
      last c hi = let le : c ≤ n = omega arith in eq-or-lt_of_le le

  module _ (budget k laid : ℕ) (s e : S) (h : Reached holds keeps m d (d.cubes + k) s e laid) where
    long : length (surface m d (d.cubes + k)) ≡ length (surface m d d.cubes) + length h.triangles
    long =
        let old = surface m d d.cubes in
        omega (arith, ap length h.rules, length-append old (map corners h.triangles), length-map h.triangles corners)

    -- Where the next cube cannot be drawn, no more cubes may be drawn than these.
    none_more : (ending : Ending) → Ends m d budget k (holds e).free ending → (j : ℕ) → Allowed m d (holds s).free budget j → k < j → ⊥
    none_more Done end j may l = omega (arith, end, may.cubes)
    none_more Budget end j may l = omega (arith, end.1, may.budgeted)
    none_more (Lacking cube fault) end j may l =
        let n = d.cubes + k in
        no_fault m cube fault
        (subst (λ (v : Voxel). Readable m v) (sym end.2.0) (may.read n (omega arith) (omega arith)))
        end.2.1
    none_more (Full triangles told) end j may l =
        let n = d.cubes + k in
        let more : length (surface m d (n + 1)) ≤ length (surface m d (d.cubes + j)) = surface_grows m d (n + 1) (d.cubes + j) (omega arith) in
        let next = ap length (surface_next m d n) in
        omega (arith, more, next, length-append (surface m d n) (cube_lays m d n), long, may.room, end.2.1, end.2.2, end.2.3, ap (λ x. x.free) h.list, h.fit)

    pub greatest : (ending : Ending) → Ends m d budget k (holds e).free ending → k ≤ budget → d.cubes + k ≤ cube_count d.sides
        → Greatest (Allowed m d (holds s).free budget) k
    greatest ending end within cubes =
        record {
          holds = record { budgeted = within; cubes = cubes; read = h.read; room = omega (arith, long, h.fit) };
          most = λ j may. ⊎_elim (λ l. absurd (none_more ending end j may l)) (λ le. le) (cases_lt k j);
        }

    -- So a draw that ends there is what it should be.
    pub drawn : (ending : Ending) (left : ℕ) (d' : Drawing) → Ends m d budget k (holds e).free ending → k ≤ budget → d.cubes + k + left ≡ cube_count d.sides
        → d'.sides ≡ d.sides → d'.test ≡ d.test → d'.pair ≡ d.pair → d'.cubes ≡ d.cubes + k → d'.triangles ≡ d.triangles + laid
        → Drawn m budget d (holds s) (record { drawn = k; laid = laid; left = left; ending = ending }) d' (holds e)
    drawn ending left d' end within rest sides test pair cubes triangles =
        record {
          cubes = greatest ending end within (omega (arith, rest));
          triangles = h.triangles;
          rules = h.rules;
          tray = h.list;
          laid = h.count;
          left = rest;
          ending = end;
          same_sides = sides;
          same_test = test;
          same_pair = pair;
          cubes_after = cubes;
          triangles_after = triangles;
        }

  -- A stretch up to where the budget or the cubes end is such a draw.
  ends_of : (budget k left free : ℕ) (stop : Option Ending) → d.cubes + k + left ≡ cube_count d.sides
      → MatchOption stop (d.cubes + k ≡ d.cubes + min budget (cube_count d.sides - d.cubes)) (λ e. (d.cubes + k < d.cubes + min budget (cube_count d.sides - d.cubes)) × Halts m d (d.cubes + k) free e)
      → Ends m d budget k free (ending_of stop left)
  ends_of budget k left free (Some Done) rest end = absurd end.1
  ends_of budget k left free (Some Budget) rest end = absurd end.1
  ends_of budget k left free (Some (Lacking cube fault)) rest end = (omega (arith, end.0), omega (arith, end.0), end.1)
  ends_of budget k left free (Some (Full triangles told)) rest end = (omega (arith, end.0), omega (arith, end.0), end.1)
  ends_of budget k left free None rest end =
      cond_both (eqb left 0) Done Budget (Ends m d budget k free) (λ t. let e = eqb-true left 0 t in omega (arith, rest))
      (λ f. let ne = eqb-false left 0 f in let less : d.cubes + k < cube_count d.sides = omega (arith, rest, ne) in (less, omega (arith, end)))

  within : (n end : ℕ) (stop : Option Ending) (P : Ending → Type 0) → MatchOption stop (n ≡ end) (λ e. (n < end) × P e) → n ≤ end
  within n end None P h = omega (arith, h)
  within n end (Some e) P h = omega (arith, h.0)

  pub stretched : (budget left : ℕ) (s e : S) (r : Stretch) (ending : Ending) (d' : Drawing)
      → Stretched holds keeps m d (d.cubes + min budget (cube_count d.sides - d.cubes)) s e r
      → left ≡ cube_count d.sides - d.cubes - r.drawn → ending ≡ ending_of r.stop left
      → d'.sides ≡ d.sides → d'.test ≡ d.test → d'.pair ≡ d.pair → d'.cubes ≡ d.cubes + r.drawn → d'.triangles ≡ d.triangles + r.laid
      → Drawn m budget d (holds s) (record { drawn = r.drawn; laid = r.laid; left = left; ending = ending }) d' (holds e)
  stretched budget left s e r ending d' h is-left is sides test pair cubes triangles =
      let k = r.drawn in
      let most = within (d.cubes + k) _ r.stop _ h.ending in
      let rest : d.cubes + k + left ≡ cube_count d.sides = omega (arith, most, d.within, is-left) in
      let ends = ends_of budget k left (holds e).free r.stop rest h.ending in
      drawn budget k r.laid s e h.reached ending left d' (subst (Ends m d budget k (holds e).free) (sym is) ends)
      (omega (arith, most)) rest sides test pair cubes triangles

-- How a draw ends, where the ending that stopped it comes first.
pub ending_or : (stop : Option Ending) (left : ℕ) → ending_of stop left ≡ unwrap_or stop (cond (left == 0) Done Budget)
ending_or (Some e) left = refl
ending_or None left = refl
