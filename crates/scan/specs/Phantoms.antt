-- What a phantom means: readings painted by shapes. Assumes nothing.
use Rattle.std.specs.Prelude.{◌≡◌, ℕ, ◌<◌, ◌≤◌, Bool, true, false, ◌&&◌, List, [], ◌∷◌, length, get_or, Ok, Err, nat_le, slice_index_or}
use Rattle.grid.specs.Voxels.{Holds}
use Rattle.grid.specs.declared.sides.Sides.{Sides}
use Rattle.grid.specs.declared.voxel.Voxel.{Voxel}
use Rattle.scan.specs.Faults.{own_fault}
use Rattle.scan.specs.Making.{SidesAre}
use Rattle.scan.specs.Meaning.{Meaning, scan_of}
use Rattle.scan.specs.declared.fault.Cause.TheVariants.{Outside}
use Rattle.scan.specs.declared.lengths.Lengths.{Lengths}
use Rattle.scan.specs.declared.shape.Shape.{Shape}

-- A shape covers a voxel when each coordinate lies between its low and its high corner, both included.
abbrev pub Covers : Shape → Voxel → Type 0
Covers s v =
    (s.low.x ≤ v.x) × (v.x ≤ s.high.x) × (s.low.y ≤ v.y) × (v.y ≤ s.high.y) × (s.low.z ≤ v.z) × (v.z ≤ s.high.z)

abbrev pub between : ℕ → ℕ → ℕ → Bool
between low high n = nat_le low n && nat_le n high

-- The same as a test.
abbrev pub covers : Shape → Voxel → Bool
covers s v = between s.low.x s.high.x v.x && (between s.low.y s.high.y v.y && between s.low.z s.high.z v.z)

abbrev pub first_or : Bool → ℕ → ℕ → ℕ
first_or true here later = here
first_or false here later = later

-- What a phantom reads at a voxel.
abbrev pub phantom_reads : List Shape → Voxel → ℕ
phantom_reads [] v = 0
phantom_reads (s ∷ shapes) v = first_or (covers s v) s.value (phantom_reads shapes v)

-- A shape that covers only the voxel at the origin and leaves it at 0; it stands where a list has no more shapes.
abbrev pub blank : Shape
blank = record { low = record { x = 0; y = 0; z = 0 }; high = record { x = 0; y = 0; z = 0 }; value = 0 }

-- The first shape that covers a voxel gives its reading; where none does, the reading is 0.
pub record FirstCounts (shapes : List Shape) (v : Voxel) (reading : ℕ) : Type 0 where
  pub first : (k : ℕ) → k < length shapes → Covers (slice_index_or shapes k blank) v
      → ((j : ℕ) → j < k → Covers (slice_index_or shapes j blank) v → ⊥) → reading ≡ (get_or shapes k blank).value
  pub none : ((k : ℕ) → k < length shapes → Covers (slice_index_or shapes k blank) v → ⊥) → reading ≡ 0

-- The meaning of a phantom.
abbrev pub phantom_means : Sides → List Shape → Meaning
phantom_means s shapes = scan_of s (λ v. Ok (phantom_reads shapes v))

-- A corner of a shape has coordinates 0 to 255.
abbrev pub CornerFits : Voxel → Type 0
CornerFits v = (v.x ≤ 255) × (v.y ≤ 255) × (v.z ≤ 255)

-- A shape in range: a value that can be read, and corners that a scan can hold.
abbrev pub ShapeFits : Shape → Type 0
ShapeFits s = (s.value ≤ 65534) × CornerFits s.low × CornerFits s.high

-- Shapes that a phantom can have: at most 64, each in range.
abbrev pub ShapesFit : List Shape → Type 0
ShapesFit shapes = (length shapes ≤ 64) × ((k : ℕ) → k < length shapes → ShapeFits (slice_index_or shapes k blank))

abbrev pub corner_fits : Voxel → Bool
corner_fits v = nat_le v.x 255 && (nat_le v.y 255 && nat_le v.z 255)

abbrev pub shape_fits : Shape → Bool
shape_fits s = nat_le s.value 65534 && (corner_fits s.low && corner_fits s.high)

-- Each shape is in range, as a test.
abbrev pub all_fit : List Shape → Bool
all_fit [] = true
all_fit (s ∷ shapes) = shape_fits s && all_fit shapes

-- What `ShapesFit` says, as a test.
abbrev pub shapes_fit : List Shape → Bool
shapes_fit shapes = nat_le (length shapes) 64 && all_fit shapes

-- A scan shows shapes: each voxel reads as the first of them says, and no other place is read.
pub record ShowsShapes (m : Meaning) (sides : Lengths) (shapes : List Shape) : Type 0 where
  pub size : SidesAre m.sides sides
  pub fits : ShapesFit shapes
  pub reads : (v : Voxel) → Holds m.sides v → m.at v ≡ Ok (phantom_reads shapes v)
  pub first : (v : Voxel) → FirstCounts shapes v (phantom_reads shapes v)
  pub beyond : (v : Voxel) → (Holds m.sides v → ⊥) → m.at v ≡ Err (own_fault Outside v)
