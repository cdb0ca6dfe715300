-- How an output stands while it is drawn. Assumes nothing.
use Rattle.std.specs.Prelude.{◌≡◌, ℕ, ◌+◌, ◌<◌, ◌≤◌, List, [], ◌++◌, map, length, Err, Some, None, Option}
use Rattle.grid.specs.Cubes.{cube_count}
use Rattle.grid.specs.Numbers.{place_count}
use Rattle.grid.specs.Voxels.{Holds}
use Rattle.grid.specs.declared.sides.Sides.{Sides}
use Rattle.grid.specs.declared.voxel.Voxel.{Voxel}
use Rattle.scan.specs.Making.{SidesFit}
use Rattle.scan.specs.Meaning.{Meaning}
use Rattle.scan.specs.declared.fault.Fault.{Fault}
use Rattle.tray.specs.Holding.{Held}
use Rattle.tray.specs.Texts.{text_of}
use Rattle.tray.specs.declared.triangle.Triangle.{Triangle}
use Rattle.surface.specs.Fronts.{OneBorder}
use Rattle.surface.specs.Places.{low_of}
use Rattle.drawing.specs.Laying.{corners, surface, Readable, FirstFault}
use Rattle.drawing.specs.Solids.{solids_of}
use Rattle.drawing.specs.declared.drawing.Drawing.{Drawing}
use Rattle.drawing.specs.declared.progress.Ending.{Ending}
use Rattle.drawing.specs.declared.progress.Ending.TheVariants as ending
use Rattle.drawing.specs.declared.refusal.OpenRefusal.{OpenRefusal}
use Rattle.drawing.specs.declared.refusal.OpenRefusal.TheVariants as refusal
use Rattle.listing.specs.Listings.{sides_of}
use Rattle.listing.specs.declared.header.Header.{Header}

-- A header has sides that a scan can have, and there is a reading for each voxel.
pub record Fills (header : Header) (readings : List ℕ) : Type 0 where
  pub fit : SidesFit (sides_of header)
  pub whole : length readings ≡ place_count header.nx header.ny header.nz

-- A fault tells the place that was asked.
abbrev pub OwnFaults : Meaning → Type 0
OwnFaults m = (v : Voxel) (f : Fault) → m.at v ≡ Err f → f.at ≡ v

-- The voxel that a refused opening tells is one of the scan.
abbrev pub TellsInside : Sides → OpenRefusal → Type 0
TellsInside s refusal.ThinSide = Unit {0}
TellsInside s refusal.ZeroThreshold = Unit {0}
TellsInside s refusal.NoPair = Unit {0}
TellsInside s (refusal.Lacking v f) = Holds s v
TellsInside s (refusal.Mixed v) = Holds s v

-- A tray with nothing in it has room for the triangles of any cube.
pub record Ready (h : Held) : Type 0 where
  pub none : h.list ≡ []
  pub room : 6 ≤ h.free

-- Two drawings are of the same.
pub record Same (d d' : Drawing) : Type 0 where
  pub sides : d'.sides ≡ d.sides
  pub test : d'.test ≡ d.test
  pub pair : d'.pair ≡ d.pair

-- Cubes were drawn from a drawing on, and the text of their triangles went to the end of the output.
pub record Adds (m : Meaning) (d d' : Drawing) (out out' : List ℕ) : Type 0 where
  pub same : Same d d'
  pub triangles : List Triangle
  pub rules : surface m d d'.cubes ≡ surface m d d.cubes ++ map corners triangles
  pub read : (c : ℕ) → d.cubes ≤ c → c < d'.cubes → Readable m (low_of d.sides c)
  pub count : d'.triangles ≡ d.triangles + length triangles
  pub text : out' ≡ out ++ text_of triangles

-- Why the drawing stands at cube n after a draw: no cube is left, it lacks a reading, or it can be drawn on.
abbrev pub Stands : Meaning → Sides → ℕ → Ending → Type 0
Stands m s n ending.Done = n ≡ cube_count s
Stands m s n ending.Budget = n < cube_count s
Stands m s n (ending.Lacking cube fault) = (n < cube_count s) × FirstFault m (low_of s n) fault
Stands m s n (ending.Full triangles free) = n < cube_count s

-- The endings after which a drawing is drawn on.
abbrev pub GoesOn : Ending → Type 0
GoesOn ending.Done = ⊥
GoesOn ending.Budget = Unit {0}
GoesOn (ending.Lacking cube fault) = ⊥
GoesOn (ending.Full triangles free) = Unit {0}

-- A draw added what it drew, at least one cube if the drawing is to be drawn on.
pub record Filled (m : Meaning) (d d' : Drawing) (e : Ending) (out out' : List ℕ) : Type 0 where
  pub adds : Adds m d d' out out'
  pub stands : Stands m d'.sides d'.cubes e
  pub further : GoesOn e → d.cubes < d'.cubes

-- Why a drawing stops at cube n: no cube is left, or it lacks a reading.
abbrev pub Stops : Meaning → Sides → ℕ → Option Fault → Type 0
Stops m s n None = n ≡ cube_count s
Stops m s n (Some fault) = (n < cube_count s) × FirstFault m (low_of s n) fault

-- A drawing was drawn on until it stopped.
pub record DrawnOut (m : Meaning) (d d' : Drawing) (fault : Option Fault) (out out' : List ℕ) : Type 0 where
  pub adds : Adds m d d' out out'
  pub stops : Stops m d'.sides d'.cubes fault

-- A scan is open: its border is of one kind, and nothing is drawn yet.
pub record Begins (m : Meaning) (d : Drawing) : Type 0 where
  pub sides : d.sides ≡ m.sides
  pub border : OneBorder d.sides (solids_of d.test m)
  pub cubes : d.cubes ≡ 0
  pub triangles : d.triangles ≡ 0
