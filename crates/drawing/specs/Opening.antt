-- Which drawings are opened, and what is refused first. Assumes nothing.
use Rattle.std.specs.Prelude.{◌≡◌, ℕ, ◌⊎◌, Ok, Err, Result, ◌≢◌}
use Rattle.grid.specs.declared.sides.Sides.{Sides}
use Rattle.grid.specs.declared.voxel.Voxel.{Voxel}
use Rattle.cube.specs.Pairs.{numbers}
use Rattle.cube.specs.declared.pair.Pair.{Pair}
use Rattle.scan.specs.Borders.{BorderRead, LowestLacking}
use Rattle.scan.specs.Meaning.{Meaning}
use Rattle.drawing.specs.Borders.{BorderOf, LowestUnlike}
use Rattle.drawing.specs.Solids.{solids_of}
use Rattle.drawing.specs.declared.asked.Asked.{Asked}
use Rattle.drawing.specs.declared.drawing.Drawing.{Drawing}
use Rattle.drawing.specs.declared.refusal.OpenRefusal.{OpenRefusal}
use Rattle.drawing.specs.declared.refusal.OpenRefusal.TheVariants.{ThinSide, ZeroThreshold, NoPair, Lacking, Mixed}

-- The refusals by number.
abbrev pub number : OpenRefusal → ℕ
number ThinSide = 4
number ZeroThreshold = 5
number NoPair = 6
number (Lacking v f) = 7
number (Mixed v) = 8

-- A side of 1 leaves no room for a cube.
abbrev pub Thin : Sides → Type 0
Thin s = (s.x ≡ 1) ⊎ ((s.y ≡ 1) ⊎ (s.z ≡ 1))

-- Two numbers are those of one of the four pairs.
abbrev pub Paired : ℕ → ℕ → Type 0
Paired s h = (p : Pair) × (numbers p ≡ (s, h))

-- What is told of an opening before any reading is asked: the first of these refusals that applies, and else the pair with the
-- two numbers.
abbrev pub GivesPair : Sides → Asked → Result Pair OpenRefusal → Type 0
GivesPair s a (Ok pair) = (Thin s → ⊥) × (a.test.threshold ≢ 0) × (numbers pair ≡ (a.s, a.h))
GivesPair s a (Err ThinSide) = Thin s
GivesPair s a (Err ZeroThreshold) = (Thin s → ⊥) × (a.test.threshold ≡ 0)
GivesPair s a (Err NoPair) = (Thin s → ⊥) × (a.test.threshold ≢ 0) × (Paired a.s a.h → ⊥)
GivesPair s a (Err (Lacking v f)) = ⊥
GivesPair s a (Err (Mixed v)) = ⊥

-- The voxel with number 0.
abbrev pub origin : Voxel
origin = record { x = 0; y = 0; z = 0 }

-- Refused: the first of these that applies.
abbrev pub Refused : Meaning → Asked → OpenRefusal → Type 0
Refused m a ThinSide = Thin m.sides
Refused m a ZeroThreshold = (Thin m.sides → ⊥) × (a.test.threshold ≡ 0)
Refused m a NoPair = (Thin m.sides → ⊥) × (a.test.threshold ≢ 0) × (Paired a.s a.h → ⊥)
Refused m a (Lacking v f) =
    (Thin m.sides → ⊥) × (a.test.threshold ≢ 0) × Paired a.s a.h × LowestLacking m v f
Refused m a (Mixed v) =
    (Thin m.sides → ⊥) × (a.test.threshold ≢ 0) × Paired a.s a.h × BorderRead m
    × LowestUnlike a.test m (solids_of a.test m origin) v

-- Accepted: none of them applies, and the drawing has drawn nothing yet.
pub record Accepted (m : Meaning) (a : Asked) (d : Drawing) : Type 0 where
  pub thick : Thin m.sides → ⊥
  pub above : a.test.threshold ≡ 0 → ⊥
  pub readable : BorderRead m
  pub one_kind : BorderOf a.test m (solids_of a.test m origin)
  pub sides : d.sides ≡ m.sides
  pub test : d.test ≡ a.test
  pub pair : numbers d.pair ≡ (a.s, a.h)
  pub cubes : d.cubes ≡ 0
  pub triangles : d.triangles ≡ 0

abbrev pub Opened : Meaning → Asked → Result Drawing OpenRefusal → Type 0
Opened m a (Ok d) = Accepted m a d
Opened m a (Err e) = Refused m a e
