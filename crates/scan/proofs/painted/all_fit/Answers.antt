use Rattle.std.proofs.Common.{◌≡◌, ℕ, ◌<◌, ◌≤◌, Bool, true, false, List, length, MatchBool, sym, arith, rules, tests}
use Rattle.std.specs.List.{AllWithin, HoldsAt}
use Rattle.std.proofs.lemmas.Iterator.{cases_from_all, YieldsList-from_slice}
use Rattle.scan.specs.Phantoms.{ShapeFits, blank, shapes_fit}
use Rattle.scan.specs.Laws.Painting.{true_shapes, false_shapes}
use Rattle.scan.specs.declared.shape.Shape.{Shape}
use Rattle.scan.proofs.painted.all_fit.Goals as goal

-- what a test of each shape tells of a list that is not too long
all_told : (shapes : List Shape) (r : Bool) → length shapes ≤ 64
    → MatchBool r (AllWithin ShapeFits shapes 0 (length shapes)) ((k : ℕ) × (k < length shapes) × HoldsAt (λ s. ShapeFits s → ⊥) shapes k)
    → r ≡ shapes_fit shapes
all_told shapes true few each = sym (true_shapes shapes (few, λ k h. each k blank (omega arith) h))
all_told shapes false few some = sym (false_shapes shapes (λ fit. some.2 blank (fit.1 some.0 some.1)))

pub returns-then-shapes-le-MOST_SHAPES : goal.returns-then-shapes-le-MOST_SHAPES
returns-then-shapes-le-MOST_SHAPES c =
    all_told c.args.shapes.now c.all.result c.if-shapes-le-MOST_SHAPES.true
    (cases_from_all _ _ _ ShapeFits (λ s. ShapeFits s → ⊥) c.all.ensures.ran (YieldsList-from_slice c.args.shapes.now cc) (λ x q k. search (rules, tests)) (λ x q k. search (rules, tests)))
