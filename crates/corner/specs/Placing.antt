-- Where the corner on a link lies, and what is refused first. Assumes nothing.
use Rattle.std.specs.Prelude.{◌≡◌, ℕ, false, T, ◌⊎◌, is_ok, Ok, Err, Result, ◌≢◌}
use Rattle.grid.specs.Links.{LinkNumbered, NoLink as names-no_link, upper_of}
use Rattle.grid.specs.declared.link.Link.{Link}
use Rattle.scan.specs.Meaning.{Meaning}
use Rattle.scan.specs.declared.spacing.Spacing.{Spacing}
use Rattle.surface.specs.Joined.{crosses}
use Rattle.drawing.specs.Solids.{solids_of}
use Rattle.drawing.specs.declared.drawing.Drawing.{Drawing}
use Rattle.drawing.specs.declared.letter.SolidTest.{SolidTest}
use Rattle.corner.specs.Fractions.{IsFraction}
use Rattle.corner.specs.Levels.{twice_level, Crosses}
use Rattle.corner.specs.Points.{axis_of, fraction_of, IsPoint, WithinEnds}
use Rattle.corner.specs.declared.corner.Corner.{Corner}
use Rattle.corner.specs.declared.ends.Ends.{Ends}
use Rattle.corner.specs.declared.refusal.PlaceRefusal.{PlaceRefusal}
use Rattle.corner.specs.declared.refusal.PlaceRefusal.TheVariants.{OtherSides, NoLink, Lacking, OneKind}

-- The refusals by number.
abbrev pub number : PlaceRefusal → ℕ
number OtherSides = 9
number NoLink = 14
number Lacking = 15
number OneKind = 16

-- The link of a scan with a number, and the readings at its two ends.
pub record EndsRead (m : Meaning) (n : ℕ) (e : Ends) : Type 0 where
  pub numbered : LinkNumbered m.sides e.link n
  pub lower : m.at e.link.lower ≡ Ok e.low
  pub upper : m.at (upper_of e.link) ≡ Ok e.high

-- An end of the link with a number lacks a reading.
pub record EndLacking (m : Meaning) (n : ℕ) : Type 0 where
  pub link : Link
  pub numbered : LinkNumbered m.sides link n
  pub lacks : (is_ok (m.at link.lower) ≡ false) ⊎ (is_ok (m.at (upper_of link)) ≡ false)

-- A number leads to the ends of its link, or to why it does not.
abbrev pub EndsFound : Meaning → ℕ → Result Ends PlaceRefusal → Type 0
EndsFound m n (Ok e) = EndsRead m n e
EndsFound m n (Err OtherSides) = ⊥
EndsFound m n (Err NoLink) = names-no_link m.sides n
EndsFound m n (Err Lacking) = EndLacking m n
EndsFound m n (Err OneKind) = ⊥

-- The corner on a link between a solid and a hollow voxel.
pub record CornerOn (t : SolidTest) (m : Meaning) (s : Spacing) (e : Ends) (c : Corner) : Type 0 where
  -- Its place is on the link's axis, where the readings pass the level of the test.
  pub carried : T (crosses (solids_of t m) e.link)
  pub level : Crosses (twice_level t) e.low e.high
  pub axis : axis_of c.place ≡ e.link.axis
  pub fraction : IsFraction (twice_level t) e.low e.high (fraction_of c.place)
  -- Its point is told from there, and lies between the two ends.
  pub point : IsPoint s e.link.lower c.place c.point
  pub between : WithinEnds s e.link.lower (upper_of e.link) c.point

-- The corner on the link with that number, or the first refusal that applies.
abbrev pub Placed : Drawing → Meaning → Spacing → ℕ → Result Corner PlaceRefusal → Type 0
Placed d m s n (Ok c) = (m.sides ≡ d.sides) × ((e : Ends) × EndsRead m n e × CornerOn d.test m s e c)
Placed d m s n (Err OtherSides) = m.sides ≢ d.sides
Placed d m s n (Err NoLink) = (m.sides ≡ d.sides) × names-no_link m.sides n
Placed d m s n (Err Lacking) = (m.sides ≡ d.sides) × EndLacking m n
Placed d m s n (Err OneKind) =
    (m.sides ≡ d.sides) × ((e : Ends) × EndsRead m n e × (T (crosses (solids_of d.test m) e.link) → ⊥))
