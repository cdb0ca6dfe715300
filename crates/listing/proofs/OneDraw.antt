-- What one draw into an empty tray does to an output. Assumes nothing.
use Rattle.std.proofs.Common.{◌≡◌, ℕ, zero, suc, ◌+◌, ◌<◌, ◌≤◌, List, ◌++◌, map, length, Ok, Result, Bool, true, false, sym, refl, ap, ◌∙◌, subst, arith, length-append}
use lib.ListN.{length-map}
use Rattle.grid.specs.declared.sides.Sides.{Sides}
use Rattle.grid.specs.declared.voxel.Voxel.{Voxel}
use Rattle.cube.specs.Cube.{Kinds, exchange}
use Rattle.cube.specs.Laws.{most}
use Rattle.cube.specs.Triangles.{triangles, opposite}
use Rattle.cube.specs.declared.pair.Pair.{Pair}
use Rattle.cube.specs.declared.pair.Pair.TheVariants.{S18H6, S26H6, S6H18, S6H26}
use Rattle.cube.proofs.Lawful.{lawful}
use Rattle.scan.specs.Meaning.{Meaning}
use Rattle.tray.specs.Holding.{Held}
use Rattle.tray.specs.Texts.{text_of}
use Rattle.surface.specs.Laid.{numbered}
use Rattle.surface.specs.Places.{kinds_at, low_of}
use Rattle.drawing.specs.Draws.{Drawn, Draws, Ends}
use Rattle.drawing.specs.Laying.{corners, surface, cube_lays, FirstFault}
use Rattle.drawing.specs.Solids.{solids_of}
use Rattle.drawing.specs.declared.drawing.Drawing.{Drawing}
use Rattle.drawing.specs.declared.progress.DrawRefusal.{DrawRefusal}
use Rattle.drawing.specs.declared.progress.Ending.{Ending}
use Rattle.drawing.specs.declared.progress.Ending.TheVariants.{Done, Budget, Lacking, Full}
use Rattle.drawing.specs.declared.progress.Progress.{Progress}
use Rattle.listing.specs.Steps.{Filled, GoesOn, Ready, Stands}

six_or_five : (b : Bool) → elim b [ true ↦ 6 | false ↦ 5 ] ≤ 6
six_or_five true = omega arith
six_or_five false = omega arith

-- A cube has at most six triangles, under each pair.
few : (p : Pair) (k : Kinds) → most p k ≤ 6
few S18H6 k = omega arith
few S26H6 k = six_or_five (opposite k)
few S6H18 k = omega arith
few S6H26 k = six_or_five (opposite (exchange k))

pub cube_few : (m : Meaning) (d : Drawing) (n : ℕ) → length (cube_lays m d n) ≤ 6
cube_few m d n =
    let low = low_of d.sides n in
    let k = kinds_at (solids_of d.test m) low in
    let law = lawful d.pair k in
    omega (arith, length-map (triangles d.pair k) (numbered d.sides low), law.few, few d.pair k)

module _ (m : Meaning) (d d' : Drawing) (h h' : Held) (p : Progress) (drawn : Drawn m 4294967295 d h p d' h') (ready : Ready h) where
  -- The tray holds what was laid.
  holds : h'.list ≡ drawn.triangles
  holds = ap (λ x. x.list) drawn.tray ∙ ap (λ l. l ++ drawn.triangles) ready.none

  -- Why the draw ended is why the drawing stands where it does then.
  stands_at : (e : Ending) → Ends m d 4294967295 p.drawn h'.free e → Stands m d.sides (d.cubes + p.drawn) e
  stands_at Done h = h
  stands_at Budget h = h.0
  stands_at (Lacking cube fault) h = (h.0, subst (λ (v : Voxel). FirstFault m v fault) h.2.0 h.2.1)
  stands_at (Full triangles free) h = h.0

  stands : Stands m d'.sides d'.cubes p.ending
  stands =
      subst (λ (s : Sides). Stands m s d'.cubes p.ending) (sym drawn.same_sides)
      (subst (λ (n : ℕ). Stands m d.sides n p.ending) (sym drawn.cubes_after) (stands_at p.ending drawn.ending))

  -- Where nothing was drawn nothing was laid.
  none_laid : p.drawn ≡ 0 → length drawn.triangles ≡ 0
  none_laid none =
      let at : d.cubes + p.drawn ≡ d.cubes = omega arith in
      omega (
        arith,
        ap length drawn.rules,
        ap (λ n. length (surface m d n)) at,
        length-append (surface m d d.cubes) (map corners drawn.triangles),
        length-map drawn.triangles corners,
      )

  -- The places of an empty tray are enough for one cube, so that at least one was drawn where they ran out.
  further_at : (n : ℕ) (e : Ending) → p.drawn ≡ n → Ends m d 4294967295 p.drawn h'.free e → GoesOn e → 0 < n
  further_at (suc n) e same ends on = omega arith
  further_at zero Done same ends on = absurd on
  further_at zero Budget same ends on = absurd (omega (arith, ends.1))
  further_at zero (Lacking cube fault) same ends on = absurd on
  further_at zero (Full most told) same ends on =
      absurd (omega (arith, none_laid same, ap (λ x. x.free) drawn.tray, ready.room, cube_few m d (d.cubes + p.drawn), ends.2.1, ends.2.3))

  pub filled : (out out' : List ℕ) → out' ≡ out ++ text_of h'.list → Filled m d d' p.ending out out'
  filled out out' text = record {
    adds =
        record {
          same = record { sides = drawn.same_sides; test = drawn.same_test; pair = drawn.same_pair };
          triangles = drawn.triangles;
          rules = ap (surface m d) drawn.cubes_after ∙ drawn.rules;
          read = λ c lo hi. drawn.cubes.holds.read c lo (omega (arith, drawn.cubes_after));
          count = omega (arith, drawn.triangles_after, drawn.laid);
          text = text ∙ ap (λ ts. out ++ text_of ts) holds;
        };
    stands = stands;
    further = λ on. omega (arith, drawn.cubes_after, further_at p.drawn p.ending refl drawn.ending on);
  }

-- A draw that is not refused.
pub drawn_of : (m : Meaning) (budget : ℕ) (d d' : Drawing) (h h' : Held) (r : Result Progress DrawRefusal) (p : Progress) → r ≡ Ok p → Draws m budget d h r d' h' → Drawn m budget d h p d' h'
drawn_of m budget d d' h h' r p is law = (subst (λ (x : Result Progress DrawRefusal). Draws m budget d h x d' h') is law).2
