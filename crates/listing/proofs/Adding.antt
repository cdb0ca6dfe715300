-- An output that grows as cubes are drawn. Assumes nothing.
use Rattle.std.proofs.Common.{◌≡◌, ℕ, List, [], ◌∷◌, ◌++◌, map, Option, sym, refl, ap, ◌∙◌, subst, ⊎_elim, append_assoc, append-nil, arith, length-append}
use mathlib.Core.List.{map-append}
use Rattle.std.proofs.lemmas.Bool.{cases_lt}
use Rattle.grid.specs.declared.sides.Sides.{Sides}
use Rattle.scan.specs.Meaning.{Meaning}
use Rattle.scan.specs.declared.fault.Fault.{Fault}
use Rattle.tray.specs.Lines.{line_of}
use Rattle.tray.specs.Texts.{text_of}
use Rattle.tray.specs.declared.triangle.Triangle.{Triangle}
use Rattle.surface.specs.Laid.{laid}
use Rattle.surface.specs.Places.{low_of}
use Rattle.drawing.specs.Laying.{corners, surface, Readable}
use Rattle.drawing.specs.Solids.{solids_of}
use Rattle.drawing.specs.declared.drawing.Drawing.{Drawing}
use Rattle.drawing.specs.declared.progress.Ending.{Ending}
use Rattle.listing.specs.Steps.{Adds, DrawnOut, Filled, Same, Stops}

-- The text of two lists is that of the one behind that of the other.
pub text_append : (ts us : List Triangle) → text_of (ts ++ us) ≡ text_of ts ++ text_of us
text_append [] us = refl
text_append (t ∷ ts) us = ap (λ l. line_of t ++ l) (text_append ts us) ∙ sym (append_assoc (line_of t) (text_of ts) (text_of us))

-- Two drawings of the same are of one surface.
pub same_surface : (m : Meaning) (d d' : Drawing) → Same d d' → (n : ℕ) → surface m d' n ≡ surface m d n
same_surface m d d' same n i = laid (same.sides i) (same.pair i) (solids_of (same.test i) m) n

pub adds_none : (m : Meaning) (d : Drawing) (out : List ℕ) → Adds m d d out out
adds_none m d out = record {
  same = record { sides = refl; test = refl; pair = refl };
  triangles = [];
  rules = sym (append-nil (surface m d d.cubes));
  read = λ c lo hi. absurd (omega arith);
  count = omega arith;
  text = sym (append-nil out);
}

-- What is added to what was added before is added.
pub adds_more : (m : Meaning) (d e f : Drawing) (out more all : List ℕ) → Adds m d e out more → Adds m e f more all → Adds m d f out all
adds_more m d e f out more all a b =
    let ts = a.triangles in
    let us = b.triangles in
    let here = same_surface m d e a.same in
    record {
      same = record { sides = b.same.sides ∙ a.same.sides; test = b.same.test ∙ a.same.test; pair = b.same.pair ∙ a.same.pair };
      triangles = ts ++ us;
      rules =
          sym (here f.cubes)
          ∙ b.rules
          ∙ ap (λ l. l ++ map corners us) (here e.cubes ∙ a.rules)
          ∙ append_assoc (surface m d d.cubes) (map corners ts) (map corners us)
          ∙ ap (λ l. surface m d d.cubes ++ l) (sym (map-append corners ts us));
      read = λ c lo hi.
          ⊎_elim (λ below. a.read c lo below) (λ above. subst (λ (s : Sides). Readable m (low_of s c)) a.same.sides (b.read c above hi))
          (cases_lt c e.cubes);
      count = omega (arith, a.count, b.count, length-append ts us);
      text =
          b.text
          ∙ ap (λ l. l ++ text_of us) a.text
          ∙ append_assoc out (text_of ts) (text_of us)
          ∙ ap (λ l. out ++ l) (sym (text_append ts us));
    }

-- A draw more is added to those before it, and where it stopped the drawing is drawn out.
pub drawn_out : (m : Meaning) (d e f : Drawing) (out more all : List ℕ) (ending : Ending) (fault : Option Fault) → Adds m d e out more
    → Filled m e f ending more all → Stops m f.sides f.cubes fault → DrawnOut m d f fault out all
drawn_out m d e f out more all ending fault before filled stops =
    record { adds = adds_more m d e f out more all before filled.adds; stops = stops }
