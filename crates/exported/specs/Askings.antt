-- What is asked of readings, and what is told of opening a drawing of them. Assumes nothing.
use Rattle.std.specs.Prelude.{◌≡◌, ℕ, Bool, true, false, ◌⊎◌, List, length, Ok, Err, Result}
use Rattle.grid.specs.Numbers.{place_count}
use Rattle.grid.specs.declared.sides.Sides.{Sides}
use Rattle.cube.specs.declared.pair.Pair.{Pair}
use Rattle.scan.specs.Blocks.{ShowsValues, block_means}
use Rattle.scan.specs.Making.{SidesAre, SidesFit}
use Rattle.scan.specs.Meaning.{Meaning}
use Rattle.scan.specs.declared.lengths.Lengths.{Lengths}
use Rattle.scan.specs.declared.refusal.Refusal.TheVariants.{Size}
use Rattle.drawing.specs.Opening as opening
use Rattle.drawing.specs.Opening.{Accepted, GivesPair}
use Rattle.drawing.specs.declared.asked.Asked.{Asked}
use Rattle.drawing.specs.declared.letter.Letter.{Letter}
use Rattle.drawing.specs.declared.letter.Letter.TheVariants.{H, L}
use Rattle.drawing.specs.declared.drawing.Drawing.{Drawing}
use Rattle.drawing.specs.declared.refusal.OpenRefusal.{OpenRefusal}
use Rattle.exported.specs.Refusals.{number}
use Rattle.exported.specs.declared.asking.Asking.{Asking}
use Rattle.exported.specs.declared.opening.Opened.{Opened as OpenedScan}
use Rattle.exported.specs.declared.refusal.Refusal.{Refusal}
use Rattle.exported.specs.declared.refusal.Refusal.TheVariants.{Scan, Open, Draw, Memory}

-- The sides that are asked for.
abbrev pub sides_of : Asking → Lengths
sides_of a = record { x = a.x; y = a.y; z = a.z }

abbrev pub letter_of : Bool → Letter
letter_of true = L
letter_of false = H

-- What is asked of the opening.
abbrev pub asked_of : Asking → Asked
asked_of a = record { test = record { threshold = a.threshold; letter = letter_of a.below }; s = a.s; h = a.h }

-- The readings make a block: the sides can be those of a scan, and there is a reading for each voxel.
abbrev pub MakesBlock : Asking → List ℕ → Type 0
MakesBlock a values = SidesFit (sides_of a) × (length values ≡ place_count a.x a.y a.z)

-- It is well asked where the readings make a block and nothing but their values can stand against opening it: no side is 1, the
-- threshold is not 0, and the two numbers are those of a pair.
pub record WellAsked (a : Asking) (values : List ℕ) : Type 0 where
  pub block : MakesBlock a values
  pub sides : Sides
  pub are : SidesAre sides (sides_of a)
  pub pair : Pair
  pub given : GivesPair sides (asked_of a) (Ok pair)

-- A scan that shows the readings is not opened as it is asked, for this reason.
pub record OpenRefused (a : Asking) (values : List ℕ) (e : OpenRefusal) : Type 0 where
  pub scan : Meaning
  pub shows : ShowsValues scan (sides_of a) values
  pub refused : opening.Refused scan (asked_of a) e

-- Refused: the readings make no block, or its opening is refused; and that memory lacks is told only where it is well asked.
abbrev pub Refused : Asking → List ℕ → Refusal → Type 0
Refused a values (Scan e) = (e ≡ Size) × (MakesBlock a values → ⊥)
Refused a values (Open e) = OpenRefused a values e
Refused a values (Draw e) = ⊥
Refused a values Memory = WellAsked a values

-- A scan that shows the readings is open as it is asked, with nothing drawn; or it is refused.
abbrev pub OpenMade : Asking → List ℕ → Result OpenedScan Refusal → Type 0
OpenMade a values (Ok o) =
    ShowsValues (block_means o.block.sides o.block.values.items) (sides_of a) values
    × Accepted (block_means o.block.sides o.block.values.items) (asked_of a) o.drawing
OpenMade a values (Err e) = Refused a values e

-- A scan that shows the readings is opened as it is asked.
pub record Opens (a : Asking) (values : List ℕ) : Type 0 where
  pub scan : Meaning
  pub shows : ShowsValues scan (sides_of a) values
  pub drawing : Drawing
  pub accepted : Accepted scan (asked_of a) drawing

-- What is told of an opening: 0 where it is accepted, and else the number of the refusal.
abbrev pub OpenTold : Asking → List ℕ → ℕ → Type 0
OpenTold a values n = ((n ≡ 0) × Opens a values) ⊎ ((e : Refusal) × (n ≡ number e) × Refused a values e)
