-- The last line of an output, after all that was drawn. Assumes nothing.
use Rattle.std.proofs.Common.{◌≡◌, ℕ, ◌<◌, List, [], ◌++◌, map, length, Ok, Some, None, sym, ap, ◌∙◌, subst, ap₂, arith}
use Rattle.grid.specs.Cubes.{cube_count}
use Rattle.grid.specs.Voxels.{Holds, number_of}
use Rattle.grid.specs.declared.sides.Sides.{Sides}
use Rattle.cube.specs.Lists.{In, Distinct}
use Rattle.scan.specs.Meaning.{Meaning}
use Rattle.scan.specs.declared.fault.Fault.{Fault}
use Rattle.tray.specs.declared.triangle.Triangle.{Triangle}
use Rattle.surface.specs.Fronts.{OneBorder}
use Rattle.surface.specs.Laid.{edges, back}
use Rattle.surface.specs.Places.{low_of}
use Rattle.surface.proofs.Front.{closed}
use Rattle.surface.proofs.Numbered.{low_is, holds_at}
use Rattle.surface.proofs.Together.{all_whole}
use Rattle.drawing.specs.Laying.{corners, surface, FirstFault}
use Rattle.drawing.specs.Opening.{Accepted, Refused, origin}
use Rattle.drawing.specs.Readings.{FirstLacking}
use Rattle.drawing.specs.Solids.{solids_of}
use Rattle.drawing.specs.declared.asked.Asked.{Asked}
use Rattle.drawing.specs.declared.drawing.Drawing.{Drawing}
use Rattle.drawing.specs.declared.letter.SolidTest.{SolidTest}
use Rattle.drawing.specs.declared.refusal.OpenRefusal.{OpenRefusal}
use Rattle.drawing.specs.declared.refusal.OpenRefusal.TheVariants.{ThinSide, ZeroThreshold, NoPair, Lacking, Mixed}
use Rattle.listing.specs.ClosingLines.{end_text, refusal_text}
use Rattle.listing.specs.Listings.{BrokenOff, ClosedSurface, Finished, Lists, OfCubes}
use Rattle.listing.specs.declared.outcome.Outcome.TheVariants as outcome
use Rattle.listing.specs.Steps.{Adds, Begins, DrawnOut, OwnFaults, TellsInside}

module _ (m : Meaning) where
  -- A scan that is accepted is open.
  pub begins : (asked : Asked) (d : Drawing) → Accepted m asked d → Begins m d
  begins asked d h =
      let P : Sides → SolidTest → Type 0 = λ s t. OneBorder s (solids_of t m) in
      let there : P m.sides asked.test = (solids_of asked.test m origin, h.one_kind) in
      record {
        sides = h.sides;
        border = subst (λ (t : SolidTest). P d.sides t) (sym h.test) (subst (λ (s : Sides). P s asked.test) (sym h.sides) there);
        cubes = h.cubes;
        triangles = h.triangles;
      }

  -- A voxel that a refused opening tells is on the border.
  pub tells_inside : (asked : Asked) (e : OpenRefusal) → Refused m asked e → TellsInside m.sides e
  tells_inside asked ThinSide h = tt
  tells_inside asked ZeroThreshold h = tt
  tells_inside asked NoPair h = tt
  tells_inside asked (Lacking v f) h = h.3.border.0
  tells_inside asked (Mixed v) h = h.4.border.0

  -- All triangles of a drawing that is closed are a closed surface.
  closed_surface : (d : Drawing) (ts : List Triangle) → OneBorder d.sides (solids_of d.test m) → map corners ts ≡ surface m d (cube_count d.sides) → ClosedSurface ts
  closed_surface d ts border rules =
      let here = sym rules in
      let whole = all_whole d.sides d.pair (solids_of d.test m) (cube_count d.sides) (omega arith) in
      record {
        once = subst (λ (us : List (ℕ × ℕ × ℕ)). Distinct (edges us)) here whole.once;
        shut =
            subst (λ (us : List (ℕ × ℕ × ℕ)). (e : ℕ × ℕ) → In e (edges us) → In (back e) (edges us)) here
            (closed d.sides d.pair (solids_of d.test m) border);
      }

  module _ (o d : Drawing) (out : List ℕ) (begun : Begins m o) (adds : Adds m o d [] out) where
    -- What was added since the opening are the triangles of all cubes so far.
    of_cubes : OfCubes m o d.cubes adds.triangles
    of_cubes = record {
      read = λ c lt. adds.read c (omega (arith, begun.cubes)) lt;
      rules = sym (adds.rules ∙ ap (λ n. surface m o n ++ map corners adds.triangles) begun.cubes);
    }

    -- Where no cube is left, the line of the end finishes the output.
    pub finished : (all : List ℕ) → d.cubes ≡ cube_count d.sides → all ≡ out ++ end_text d.cubes d.triangles → Finished m o all
    finished all done text =
        let ts = adds.triangles in
        let count : d.cubes ≡ cube_count o.sides = done ∙ ap cube_count adds.same.sides in
        let triangles : d.triangles ≡ length ts = omega (arith, adds.count, begun.triangles) in
        let cubes = subst (λ (n : ℕ). OfCubes m o n ts) count of_cubes in
        record {
          triangles = ts;
          cubes = cubes;
          closed = closed_surface o ts begun.border cubes.rules;
          text = text ∙ ap₂ (λ l e. l ++ e) adds.text (ap₂ end_text count triangles);
        }

    -- Where a cube lacks a reading, refusal 11 breaks it off.
    pub broken_off : (all : List ℕ) (f : Fault) → OwnFaults m → d.cubes < cube_count d.sides → FirstFault m (low_of d.sides d.cubes) f
        → all ≡ out ++ refusal_text 11 (number_of d.sides f.at) → BrokenOff m o all
    broken_off all f own left first text =
        let v = first.0 in
        let at : f.at ≡ v = own v f first.1.lacks in
        record {
          cube = d.cubes;
          within = subst (λ (s : Sides). d.cubes < cube_count s) adds.same.sides left;
          triangles = adds.triangles;
          cubes = of_cubes;
          voxel = v;
          fault = f;
          lacks = subst (λ (s : Sides). FirstLacking m (low_of s d.cubes) (record { voxel = v; fault = f })) adds.same.sides first.1;
          text = text ∙ ap₂ (λ l n. l ++ refusal_text 11 n) adds.text (ap₂ number_of adds.same.sides at);
        }

-- The place of a cube's first fault is a voxel of the scan.
pub fault_inside : (m : Meaning) (s : Sides) (n : ℕ) (f : Fault) → OwnFaults m → n < cube_count s → FirstFault m (low_of s n) f → Holds s f.at
fault_inside m s n f own left first =
    let at : f.at ≡ first.0 = own first.0 f first.1.lacks in
    subst (Holds s) (sym (at ∙ first.1.place)) (holds_at s (low_of s n) (low_is s n left) first.1.index)

module _ (m : Meaning) (o d : Drawing) (base out all : List ℕ) (none : base ≡ []) (begun : Begins m o) where
  added : Adds m o d base out → Adds m o d [] out
  added adds = subst (λ (l : List ℕ). Adds m o d l out) none adds

  -- The output of a scan that is open and was drawn out, where it ends,
  pub lists_end : DrawnOut m o d None base out → all ≡ out ++ end_text d.cubes d.triangles → Lists m (Ok o) all outcome.Finished
  lists_end h text = finished m o d out begun (added h.adds) all h.stops text

  -- and where it breaks off.
  pub lists_broken : (f : Fault) (s : Sides) → OwnFaults m → DrawnOut m o d (Some f) base out → s ≡ d.sides
      → all ≡ out ++ refusal_text 11 (number_of s f.at) → Lists m (Ok o) all outcome.Refused
  lists_broken f s own h same text =
      broken_off m o d out begun (added h.adds) all f own h.stops.0 h.stops.1 (text ∙ ap (λ (x : Sides). out ++ refusal_text 11 (number_of x f.at)) same)
