-- A triangle is known by its corners. Assumes nothing.
use Rattle.std.proofs.Common.{◌≡◌}
use mathlib.Core.HLevel.{is_prop→PathP, ×₃_prop, ¬_prop}
use native.Mathlib.Bridge.{le_prop}
use Rattle.tray.specs.declared.triangle.Triangle.{Triangle}
use Rattle.tray.specs.Corners.{Below, Differ}

-- Two triangles with the same corners in the same order are one.
pub same_triangle : (s t : Triangle) → s.first ≡ t.first → s.second ≡ t.second → s.third ≡ t.third → s ≡ t
same_triangle s t p q r = λ i. record {
  first = p i;
  second = q i;
  third = r i;
  below = is_prop→PathP (λ j. Below (p j) (q j) (r j)) (λ j. ×₃_prop le_prop le_prop le_prop) s.below t.below i;
  differ = is_prop→PathP (λ j. Differ (p j) (q j) (r j)) (λ j. ×₃_prop ¬_prop ¬_prop ¬_prop) s.differ t.differ i;
}
