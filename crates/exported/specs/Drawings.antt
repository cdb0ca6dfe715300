-- What is told of drawing a scan by draws of one budget, and what is handed over. Assumes nothing.
use Rattle.std.specs.Prelude.{◌≡◌, ℕ, ◌+◌, ◌-◌, ◌*◌, ◌/◌, ◌<◌, ◌≤◌, ◌⊎◌, List, [], ◌∷◌, ◌++◌, map, length, drop, Some, None, Option, Ok, Err, Result, ◌≢◌}
use Rattle.std.specs.List.{flat_map}
use Rattle.grid.specs.Cubes.{cube_count}
use Rattle.scan.specs.Blocks.{ShowsValues}
use Rattle.scan.specs.Meaning.{Meaning}
use Rattle.tray.specs.Texts.{text_of}
use Rattle.tray.specs.declared.triangle.Triangle.{Triangle}
use Rattle.surface.specs.Places.{low_of}
use Rattle.drawing.specs.Endings.{ending_number}
use Rattle.drawing.specs.Laying.{corners, surface, Halts, Readable}
use Rattle.drawing.specs.Opening.{Accepted}
use Rattle.drawing.specs.declared.drawing.Drawing.{Drawing}
use Rattle.drawing.specs.declared.progress.Ending.{Ending}
use Rattle.drawing.specs.declared.progress.Ending.TheVariants.{Done, Budget, Lacking, Full}
use Rattle.exported.specs.Askings.{OpenMade, Refused, WellAsked, asked_of, sides_of}
use Rattle.exported.specs.Refusals.{number}
use Rattle.exported.specs.declared.asking.Asking.{Asking}
use Rattle.exported.specs.declared.opening.Opened.{Opened as OpenedScan}
use Rattle.exported.specs.declared.refusal.Refusal.{Refusal}
use Rattle.exported.specs.declared.refusal.Refusal.TheVariants.{Scan, Open, Draw, Memory}
use Rattle.exported.specs.declared.told.Told.{Told}
use Rattle.drawing.specs.declared.progress.DrawRefusal.TheVariants.{ZeroBudget}

-- Nothing was drawn, for the reason with this number.
abbrev pub nothing_told : ℕ → Told
nothing_told n = record { refusal = n; cubes = 0; draws = 0; triangles = 0 }

-- The number that tells how the last draw ended, 0 where no cube is left; none where it is not the last.
abbrev pub last_number : Ending → Option ℕ
last_number Done = Some 0
last_number Budget = None
last_number (Lacking cube fault) = Some 11
last_number (Full triangles free) = Some 12

-- Cube n, with so many places free, cannot be drawn, for the reason with this number.
pub record Halted (m : Meaning) (d : Drawing) (n free number : ℕ) : Type 0 where
  pub within : n < cube_count d.sides
  pub ending : Ending
  pub halts : Halts m d n free ending
  pub told : ending_number ending ≡ Some number

-- Why it ends at cube n: no cube is left, which 0 tells, or that cube cannot be drawn.
abbrev pub Stops : Meaning → Drawing → (n free number : ℕ) → Type 0
Stops m d n free number = ((number ≡ 0) × (n ≡ cube_count d.sides)) ⊎ Halted m d n free number

-- So many draws of one budget: the earlier ones draw as many cubes as it allows, and the last the rest. The last draws a cube where
-- none is left after it, and else fewer than it may.
pub record ByDraws (budget cubes draws number : ℕ) : Type 0 where
  pub earlier : ℕ
  pub last : ℕ
  pub counted : draws ≡ earlier + 1
  pub all : cubes ≡ earlier * budget + last
  pub within : last ≤ budget
  pub some : number ≡ 0 → 0 < last
  pub short : number ≢ 0 → last < budget

-- A drawing on which nothing was drawn is drawn by draws of one budget into an empty tray with so many places: what is told, and the
-- triangles, which are those that the rules give for the cubes drawn, in order.
pub record Drew (m : Meaning) (d : Drawing) (budget places : ℕ) (told : Told) (triangles : List Triangle) : Type 0 where
  pub read : (c : ℕ) → c < told.cubes → Readable m (low_of d.sides c)
  pub rules : map corners triangles ≡ surface m d told.cubes
  pub count : told.triangles ≡ length triangles
  pub room : length triangles ≤ places
  pub stops : Stops m d told.cubes (places - length triangles) told.refusal
  pub draws : ByDraws budget told.cubes told.draws told.refusal

-- The corners of triangles, three numbers for each.
abbrev pub three : Triangle → List ℕ
three t = t.first ∷ t.second ∷ t.third ∷ []

abbrev pub numbers_of : List Triangle → List ℕ
numbers_of ts = flat_map three ts

-- A drawing starts: nothing is drawn, and there is a cube to draw.
pub record Starts (m : Meaning) (d : Drawing) : Type 0 where
  pub sides : d.sides ≡ m.sides
  pub cubes : d.cubes ≡ 0
  pub some : 0 < cube_count d.sides

-- A scan that shows the readings is opened as it is asked, and drawn, in as many places as what was lent has for triangles of this
-- width; they are written over its front, and what lies past them is as it was.
pub record Written (width : ℕ) (write : List Triangle → List ℕ) (a : Asking) (values before : List ℕ) (told : Told) (after : List ℕ) : Type 0 where
  pub budgeted : a.budget ≢ 0
  pub scan : Meaning
  pub shows : ShowsValues scan (sides_of a) values
  pub drawing : Drawing
  pub opened : Accepted scan (asked_of a) drawing
  pub triangles : List Triangle
  pub drew : Drew scan drawing a.budget (length before / width) told triangles
  pub handed : after ≡ write triangles ++ drop (width * length triangles) before

-- Refused: as an opening is, or over a budget of 0, which comes before the values of the readings; want of memory is told only where
-- the budget is not 0.
abbrev pub DrawRefused : Asking → List ℕ → Refusal → Type 0
DrawRefused a values (Scan e) = Refused a values (Scan e)
DrawRefused a values (Open e) = Refused a values (Open e) × (WellAsked a values → a.budget ≢ 0)
DrawRefused a values (Draw e) = (e ≡ ZeroBudget) × WellAsked a values × (a.budget ≡ 0)
DrawRefused a values Memory = WellAsked a values × (a.budget ≢ 0)

-- A scan that shows the readings is open as it is asked, to be drawn by draws of a budget that is not 0; or it is refused.
abbrev pub DrawStarted : Asking → List ℕ → Result OpenedScan Refusal → Type 0
DrawStarted a values (Ok o) = (a.budget ≢ 0) × WellAsked a values × OpenMade a values (Ok o)
DrawStarted a values (Err e) = DrawRefused a values e

-- What is drawn is written; a refusal writes nothing.
abbrev pub Draws : (width : ℕ) → (List Triangle → List ℕ) → Asking → List ℕ → List ℕ → Result Told Refusal → List ℕ → Type 0
Draws width write a values before (Ok told) after = Written width write a values before told after
Draws width write a values before (Err e) after = DrawRefused a values e × (after ≡ before)

-- A refusal is told by its number, with nothing drawn.
pub record NotDrawn (a : Asking) (values before : List ℕ) (told : Told) (after : List ℕ) : Type 0 where
  pub refusal : Refusal
  pub refused : DrawRefused a values refusal
  pub nothing : told ≡ nothing_told (number refusal)
  pub same : after ≡ before

-- A call that draws into numbers, three for each triangle,
abbrev pub NumbersTold : Asking → List ℕ → List ℕ → Told → List ℕ → Type 0
NumbersTold a values before told after = Written 3 numbers_of a values before told after ⊎ NotDrawn a values before told after

-- and one that draws into text, 27 bytes for each.
abbrev pub TextTold : Asking → List ℕ → List ℕ → Told → List ℕ → Type 0
TextTold a values before told after = Written 27 text_of a values before told after ⊎ NotDrawn a values before told after
