-- The corner on a link, from its place and its point. Assumes nothing.
use Rattle.std.proofs.Common.{◌≡◌, ℕ, ◌≢◌, Bool, false, not, ◌&&◌, eqb, Err, sym, ◌∙◌}
use Rattle.std.proofs.lemmas.Bool.{and_parts, eqb-true, not-false}
use Rattle.grid.proofs.Same.{sides_same}
use Rattle.grid.specs.declared.sides.Sides.{Sides}
use Rattle.scan.specs.Meaning.{Meaning}
use Rattle.scan.specs.declared.spacing.Spacing.{Spacing}
use Rattle.drawing.specs.Solids.{is_solid}
use Rattle.drawing.specs.declared.drawing.Drawing.{Drawing}
use Rattle.drawing.specs.declared.letter.SolidTest.{SolidTest}
use Rattle.corner.specs.Fractions.{IsFraction}
use Rattle.corner.specs.Levels.{twice_level}
use Rattle.corner.specs.Placing.{EndsRead, EndsFound, CornerOn, Placed}
use Rattle.corner.specs.Points.{axis_of, fraction_of, IsPoint}
use Rattle.corner.specs.declared.corner.Place.{Place}
use Rattle.corner.specs.declared.ends.Ends.{Ends}
use Rattle.corner.specs.declared.point.Point.{Point}
use Rattle.corner.specs.declared.refusal.PlaceRefusal.{PlaceRefusal}
use Rattle.corner.specs.declared.refusal.PlaceRefusal.TheVariants.{OtherSides, NoLink, Lacking, OneKind}
use Rattle.corner.proofs.Parted.{carries, crossed}
use Rattle.corner.proofs.Points.{between}

-- Sides of which a test says that they do not differ are the same.
pub same_sides : (a b s t : Sides) (differ : Bool) → a ≡ s → b ≡ t
    → differ ≡ not (eqb a.x b.x && (eqb a.y b.y && eqb a.z b.z)) → differ ≡ false → s ≡ t
same_sides a b s t differ first second is none =
    let outer = and_parts (eqb a.x b.x) (eqb a.y b.y && eqb a.z b.z) (not-false _ (sym is ∙ none)) in
    let inner = and_parts (eqb a.y b.y) (eqb a.z b.z) outer.1 in
    sym first ∙ sides_same a b (eqb-true a.x b.x outer.0, eqb-true a.y b.y inner.0, eqb-true a.z b.z inner.1) ∙ second

module _ (t : SolidTest) (m : Meaning) (n : ℕ) (e : Ends) (read : EndsRead m n e) where
  -- A place on the link's axis at its fraction, and the point there.
  pub corner_on : (s : Spacing) (place : Place) (p : Point) → is_solid t e.low ≢ is_solid t e.high → axis_of place ≡ e.link.axis
      → IsFraction (twice_level t) e.low e.high (fraction_of place) → IsPoint s e.link.lower place p
      → CornerOn t m s e (record { place = place; point = p })
  corner_on s place p parted same fraction point =
      record {
        carried = carries t m n e read parted;
        level = crossed t e.low e.high parted;
        axis = same;
        fraction = fraction;
        point = point;
        between = between s e.link place p same point;
      }

module _ (d : Drawing) (m : Meaning) (s : Spacing) (n : ℕ) (same : m.sides ≡ d.sides) where
  -- What is refused on the way to the ends is refused.
  pub refused : (r : PlaceRefusal) → EndsFound m n (Err r) → Placed d m s n (Err r)
  refused OtherSides found = absurd found
  refused NoLink found = (same, found)
  refused Lacking found = (same, found)
  refused OneKind found = absurd found
