-- What the cubes of a drawing lay, and how it goes into a tray. Assumes nothing.
use Rattle.std.specs.Prelude.{◌≡◌, ℕ, ◌<◌, ◌≤◌, List, map, length, Ok, Err, Result}
use Rattle.grid.specs.declared.sides.Sides.{Sides}
use Rattle.grid.specs.declared.voxel.Voxel.{Voxel}
use Rattle.cube.specs.Lists.{In}
use Rattle.cube.specs.declared.triangle.CubeTriangle.{CubeTriangle}
use Rattle.scan.specs.Meaning.{Meaning}
use Rattle.scan.specs.declared.fault.Fault.{Fault}
use Rattle.tray.specs.Holding.{Held, added_all, KeepsRest}
use Rattle.tray.specs.declared.triangle.Triangle.{Triangle}
use Rattle.surface.specs.Places.{low_of}
use Rattle.surface.specs.Laid.{laid, laid_at, numbered}
use Rattle.surface.specs.Laws.{Sound}
use Rattle.drawing.specs.Readings.{ReadBefore, FirstLacking}
use Rattle.drawing.specs.Solids.{solids_of}
use Rattle.drawing.specs.declared.drawing.Drawing.{Drawing}
use Rattle.drawing.specs.declared.progress.Ending.{Ending}
use Rattle.drawing.specs.declared.progress.Ending.TheVariants.{Done, Budget, Lacking, Full}

-- The corners of a triangle in a tray, as the surface has them.
abbrev pub corners : Triangle → ℕ × ℕ × ℕ
corners t = (t.first, t.second, t.third)

-- The triangles of the first n cubes of what a drawing is of, and those of cube n.
abbrev pub surface : Meaning → Drawing → ℕ → List (ℕ × ℕ × ℕ)
surface m d n = laid d.sides d.pair (solids_of d.test m) n

abbrev pub cube_lays : Meaning → Drawing → ℕ → List (ℕ × ℕ × ℕ)
cube_lays m d n = laid_at d.sides d.pair (solids_of d.test m) (low_of d.sides n)

-- All voxels of the cube at a low voxel have a reading.
abbrev pub Readable : Meaning → Voxel → Type 0
Readable m low = ReadBefore m low 8

-- The fault of the first of a cube's voxels that lacks a reading.
abbrev pub FirstFault : Meaning → Voxel → Fault → Type 0
FirstFault m low fault = (v : Voxel) × FirstLacking m low (record { voxel = v; fault = fault })

-- Triangles of a cube can be laid: their corners are cube links, three different ones in the scan.
abbrev pub Layable : Sides → Voxel → List CubeTriangle → Type 0
Layable s low ts = (t : CubeTriangle) → In t ts → ((t.0 < 12) × (t.1 < 12) × (t.2 < 12)) × Sound (numbered s low t)

-- Triangles with these corners went into a tray, after what it held, and nothing past them changed.
pub record LaidIn {S : Type 0} (holds : S → Held) (keeps : ℕ → S → S → Type 0) (before after : S) (us : List (ℕ × ℕ × ℕ)) : Type 0 where
  pub triangles : List Triangle
  pub corner : map corners triangles ≡ us
  pub fit : length triangles ≤ (holds before).free
  pub list : holds after ≡ added_all (holds before) triangles
  pub rest : KeepsRest holds keeps before after

-- The triangles of a cube at a low voxel are laid, or there are more than free places and nothing changes.
abbrev pub MaskLaid : {S : Type 0} → (S → Held) → (ℕ → S → S → Type 0) → Sides → Voxel → List CubeTriangle → S → S → Result ℕ Ending → Type 0
MaskLaid holds keeps s low ts before after (Ok count) =
    (count ≡ length ts) × (count ≤ 6) × LaidIn holds keeps before after (map (numbered s low) ts)
MaskLaid holds keeps s low ts before after (Err e) =
    (e ≡ Full (length ts) (holds before).free) × ((holds before).free < length ts) × (after ≡ before)

-- Why cube n is not drawn, with so many places free: it lacks a reading, or it has more triangles.
abbrev pub Halts : Meaning → Drawing → ℕ → ℕ → Ending → Type 0
Halts m d n free Done = ⊥
Halts m d n free Budget = ⊥
Halts m d n free (Lacking cube fault) = (cube ≡ low_of d.sides n) × FirstFault m cube fault
Halts m d n free (Full triangles told) =
    Readable m (low_of d.sides n) × (triangles ≡ length (cube_lays m d n)) × (told ≡ free) × (free < triangles)

-- Cube n is drawn whole, or it is told why not and nothing changes.
abbrev pub CubeLaid : {S : Type 0} → (S → Held) → (ℕ → S → S → Type 0) → Meaning → Drawing → ℕ → S → S → Result ℕ Ending → Type 0
CubeLaid holds keeps m d n before after (Ok count) =
    Readable m (low_of d.sides n) × (count ≡ length (cube_lays m d n)) × (count ≤ 6) × LaidIn holds keeps before after (cube_lays m d n)
CubeLaid holds keeps m d n before after (Err e) = Halts m d n (holds before).free e × (after ≡ before)
