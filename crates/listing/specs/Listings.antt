-- The output of the program, for each input. Assumes nothing.
use Rattle.std.specs.Prelude.{◌≡◌, ℕ, ◌<◌, ◌≤◌, List, ◌++◌, map, length, Ok, Err, Result}
use Rattle.grid.specs.Cubes.{cube_count}
use Rattle.grid.specs.Voxels.{number_of}
use Rattle.grid.specs.declared.sides.Sides.{Sides}
use Rattle.grid.specs.declared.voxel.Voxel.{Voxel}
use Rattle.cube.specs.Lists.{In, Distinct}
use Rattle.scan.specs.Blocks.{ShowsValues}
use Rattle.scan.specs.Meaning.{Meaning}
use Rattle.scan.specs.declared.fault.Fault.{Fault}
use Rattle.scan.specs.declared.lengths.Lengths.{Lengths}
use Rattle.tray.specs.Texts.{text_of}
use Rattle.tray.specs.declared.triangle.Triangle.{Triangle}
use Rattle.surface.specs.Places.{low_of}
use Rattle.surface.specs.Laid.{edges, back}
use Rattle.drawing.specs.Laying.{corners, surface, Readable}
use Rattle.drawing.specs.Opening.{Opened, number}
use Rattle.drawing.specs.Readings.{FirstLacking}
use Rattle.drawing.specs.declared.drawing.Drawing.{Drawing}
use Rattle.drawing.specs.declared.refusal.OpenRefusal.{OpenRefusal}
use Rattle.drawing.specs.declared.refusal.OpenRefusal.TheVariants.{ThinSide, ZeroThreshold, NoPair, Lacking, Mixed}
use Rattle.listing.specs.ClosingLines.{end_text, refusal_text}
use Rattle.listing.specs.Inputs.{Accepted, FirstOut, Listed, OneAnswer, most_bytes}
use Rattle.listing.specs.declared.header.Header.{Header}
use Rattle.listing.specs.declared.outcome.Outcome.{Outcome}
use Rattle.listing.specs.declared.outcome.Outcome.TheVariants as outcome

-- Triangles are a closed surface: no directed edge is laid twice, and each is laid the other way too.
pub record ClosedSurface (ts : List Triangle) : Type 0 where
  pub once : Distinct (edges (map corners ts))
  pub shut : (e : ℕ × ℕ) → In e (edges (map corners ts)) → In (back e) (edges (map corners ts))

-- Triangles are those of the first n cubes of a drawing, cube after cube; all these cubes have their readings.
pub record OfCubes (m : Meaning) (d : Drawing) (n : ℕ) (ts : List Triangle) : Type 0 where
  pub read : (c : ℕ) → c < n → Readable m (low_of d.sides c)
  pub rules : map corners ts ≡ surface m d n

-- An output that is finished: the triangles of all cubes, which are a closed surface, and then the line of an end.
pub record Finished (m : Meaning) (d : Drawing) (out : List ℕ) : Type 0 where
  pub triangles : List Triangle
  pub cubes : OfCubes m d (cube_count d.sides) triangles
  pub closed : ClosedSurface triangles
  pub text : out ≡ text_of triangles ++ end_text (cube_count d.sides) (length triangles)

-- An output that breaks off at a cube: the triangles of the cubes before it, and then refusal 11, which tells the first of the
-- cube's voxels that lacks a reading.
pub record BrokenOff (m : Meaning) (d : Drawing) (out : List ℕ) : Type 0 where
  pub cube : ℕ
  pub within : cube < cube_count d.sides
  pub triangles : List Triangle
  pub cubes : OfCubes m d cube triangles
  pub voxel : Voxel
  pub fault : Fault
  pub lacks : FirstLacking m (low_of d.sides cube) (record { voxel = voxel; fault = fault })
  pub text : out ≡ text_of triangles ++ refusal_text 11 (number_of d.sides voxel)

-- What a refused opening tells: the number of the voxel that lacks a reading or is unlike voxel 0, and else zero.
abbrev pub voxel_told : Sides → OpenRefusal → ℕ
voxel_told s ThinSide = 0
voxel_told s ZeroThreshold = 0
voxel_told s NoPair = 0
voxel_told s (Lacking v f) = number_of s v
voxel_told s (Mixed v) = number_of s v

-- An output that is a refusal alone, and is told as one.
abbrev pub RefusedWith : ℕ → ℕ → List ℕ → Outcome → Type 0
RefusedWith number told out how = (out ≡ refusal_text number told) × (how ≡ outcome.Refused)

-- The output of a scan that is open: it is told as finished just where it is, and as refused where it breaks off.
abbrev pub EndsAs : Meaning → Drawing → List ℕ → Outcome → Type 0
EndsAs m d out outcome.Finished = Finished m d out
EndsAs m d out outcome.Refused = BrokenOff m d out

-- The output of a scan that is opened, and of one that is not.
abbrev pub Lists : Meaning → Result Drawing OpenRefusal → List ℕ → Outcome → Type 0
Lists m (Ok d) out how = EndsAs m d out how
Lists m (Err e) out how = RefusedWith (number e) (voxel_told m.sides e) out how

-- The sides that a header has.
abbrev pub sides_of : Header → Lengths
sides_of header = record { x = header.nx; y = header.ny; z = header.nz }

-- The output of a header and readings: that of the scan that shows these readings, opened as the header asks.
pub record ScanLists (header : Header) (readings out : List ℕ) (how : Outcome) : Type 0 where
  pub scan : Meaning
  pub shows : ShowsValues scan (sides_of header) readings
  pub opening : Result Drawing OpenRefusal
  pub opened : Opened scan header.asked opening
  pub lists : Lists scan opening out how

-- The output of an input that is accepted: that of its header and readings.
pub record InputLists (bytes out : List ℕ) (how : Outcome) : Type 0 where
  pub header : Header
  pub readings : List ℕ
  pub accepted : Accepted bytes header readings
  pub lists : ScanLists header readings out how

-- The output of the program, and the outcome told with it. An input that is too long is refused with 17, and else the first line out
-- of form with 18; any other input has a header and readings, and their output. Just one of these is so of any bytes.
pub record Listing (bytes out : List ℕ) (how : Outcome) : Type 0 where
  pub too_long : most_bytes < length bytes → RefusedWith 17 0 out how
  pub out_of_form : length bytes ≤ most_bytes → (k : ℕ) → FirstOut bytes k → RefusedWith 18 k out how
  pub listed : length bytes ≤ most_bytes → (header : Header) (readings : List ℕ) → Listed bytes header readings → ScanLists header readings out how
  pub one : OneAnswer bytes
