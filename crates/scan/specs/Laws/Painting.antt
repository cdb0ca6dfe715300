-- What a list of shapes reads, shape by shape. Assumes nothing.
use Rattle.std.specs.Prelude.{◌≡◌, ℕ, ◌<◌, ◌≤◌, true, false, ◌&&◌, List, [], ◌∷◌, length, get_or, nat_le, slice_index_or, refl}
use Rattle.std.proofs.Common.{ap, cond, inl, inr, zero-le}
use Rattle.std.proofs.lemmas.List.Recursion.{and_at, and_from_places, found_at, found_nowhere}
use Rattle.std.proofs.lemmas.Bool.{le-leb, leb-true, and_parts, and_from, cases_Bool}
use Rattle.grid.specs.declared.voxel.Voxel.{Voxel}
use Rattle.scan.specs.Phantoms.{Covers, covers, between, phantom_reads, first_or, blank, FirstCounts, ShapeFits, ShapesFit, CornerFits, corner_fits, shape_fits, all_fit, shapes_fit}
use Rattle.scan.specs.declared.shape.Shape.{Shape}

-- The tests say what they are named for.

between_true : (low high n : ℕ) → between low high n ≡ true → (low ≤ n) × (n ≤ high)
between_true low high n e =
    let parts = and_parts (nat_le low n) (nat_le n high) e in
    (leb-true low n parts.0, leb-true n high parts.1)

true_between : (low high n : ℕ) → low ≤ n → n ≤ high → between low high n ≡ true
true_between low high n l h = and_from (nat_le low n) (nat_le n high) (le-leb low n l) (le-leb n high h)

pub covers_true : (s : Shape) (v : Voxel) → covers s v ≡ true → Covers s v
covers_true s v e =
    let bx = between s.low.x s.high.x v.x in
    let by = between s.low.y s.high.y v.y in
    let bz = between s.low.z s.high.z v.z in
    let outer = and_parts bx (by && bz) e in
    let inner = and_parts by bz outer.1 in
    let x = between_true s.low.x s.high.x v.x outer.0 in
    let y = between_true s.low.y s.high.y v.y inner.0 in
    let z = between_true s.low.z s.high.z v.z inner.1 in
    (x.0, x.1, y.0, y.1, z.0, z.1)

pub true_covers : (s : Shape) (v : Voxel) → Covers s v → covers s v ≡ true
true_covers s v h =
    let bx = between s.low.x s.high.x v.x in
    let by = between s.low.y s.high.y v.y in
    let bz = between s.low.z s.high.z v.z in
    and_from bx (by && bz) (true_between s.low.x s.high.x v.x h.0 h.1)
    (and_from by bz (true_between s.low.y s.high.y v.y h.2 h.3) (true_between s.low.z s.high.z v.z h.4 h.5))

pub false_covers : (s : Shape) (v : Voxel) → (Covers s v → ⊥) → covers s v ≡ false
false_covers s v none = elim (cases_Bool (covers s v)) [ inl e ↦ absurd (none (covers_true s v e)) | inr e ↦ e ]

corner_true : (v : Voxel) → corner_fits v ≡ true → CornerFits v
corner_true v e =
    let outer = and_parts (nat_le v.x 255) (nat_le v.y 255 && nat_le v.z 255) e in
    let inner = and_parts (nat_le v.y 255) (nat_le v.z 255) outer.1 in
    (leb-true v.x 255 outer.0, leb-true v.y 255 inner.0, leb-true v.z 255 inner.1)

true_corner : (v : Voxel) → CornerFits v → corner_fits v ≡ true
true_corner v h =
    and_from (nat_le v.x 255) (nat_le v.y 255 && nat_le v.z 255) (le-leb v.x 255 h.0)
    (and_from (nat_le v.y 255) (nat_le v.z 255) (le-leb v.y 255 h.1) (le-leb v.z 255 h.2))

pub shape_true : (s : Shape) → shape_fits s ≡ true → ShapeFits s
shape_true s e =
    let outer = and_parts (nat_le s.value 65534) (corner_fits s.low && corner_fits s.high) e in
    let inner = and_parts (corner_fits s.low) (corner_fits s.high) outer.1 in
    (leb-true s.value 65534 outer.0, corner_true s.low inner.0, corner_true s.high inner.1)

pub true_shape : (s : Shape) → ShapeFits s → shape_fits s ≡ true
true_shape s h =
    and_from (nat_le s.value 65534) (corner_fits s.low && corner_fits s.high) (le-leb s.value 65534 h.0)
    (and_from (corner_fits s.low) (corner_fits s.high) (true_corner s.low h.1) (true_corner s.high h.2))

-- Each shape of a list.

pub all_true : (shapes : List Shape) → all_fit shapes ≡ true → (k : ℕ) → k < length shapes → ShapeFits (slice_index_or shapes k blank)
all_true shapes e k h = shape_true (slice_index_or shapes k blank) (and_at all_fit shape_fits refl (λ _ _. refl) shapes k blank h e)

pub true_all : (shapes : List Shape) → ((k : ℕ) → k < length shapes → ShapeFits (slice_index_or shapes k blank)) → all_fit shapes ≡ true
true_all shapes each =
    and_from_places all_fit shape_fits refl (λ _ _. refl) shapes blank (λ k h. true_shape (slice_index_or shapes k blank) (each k h))

pub shapes_true : (shapes : List Shape) → shapes_fit shapes ≡ true → ShapesFit shapes
shapes_true shapes e =
    let parts = and_parts (nat_le (length shapes) 64) (all_fit shapes) e in
    (leb-true (length shapes) 64 parts.0, all_true shapes parts.1)

pub true_shapes : (shapes : List Shape) → ShapesFit shapes → shapes_fit shapes ≡ true
true_shapes shapes h =
    and_from (nat_le (length shapes) 64) (all_fit shapes) (le-leb (length shapes) 64 h.0) (true_all shapes h.1)

pub false_shapes : (shapes : List Shape) → (ShapesFit shapes → ⊥) → shapes_fit shapes ≡ false
false_shapes shapes none = elim (cases_Bool (shapes_fit shapes)) [ inl e ↦ absurd (none (shapes_true shapes e)) | inr e ↦ e ]

-- What is read.

pub reads_here : (s : Shape) (shapes : List Shape) (v : Voxel) → Covers s v → phantom_reads (s ∷ shapes) v ≡ s.value
reads_here s shapes v h = ap (λ b. first_or b s.value (phantom_reads shapes v)) (true_covers s v h)

pub reads_later : (s : Shape) (shapes : List Shape) (v : Voxel) → (Covers s v → ⊥) → phantom_reads (s ∷ shapes) v ≡ phantom_reads shapes v
reads_later s shapes v none = ap (λ b. first_or b s.value (phantom_reads shapes v)) (false_covers s v none)

-- a shape that covers a voxel gives its value, and one that does not leaves it to the others
reads_one : (v : Voxel) (s : Shape) (shapes : List Shape) → phantom_reads (s ∷ shapes) v ≡ cond (covers s v) s.value (phantom_reads shapes v)
reads_one v s shapes =
    elim (covers s v) as (λ b. first_or b s.value (phantom_reads shapes v) ≡ cond b s.value (phantom_reads shapes v)) [ true ↦ refl | false ↦ refl ]

pub first_reads : (shapes : List Shape) (v : Voxel) (k : ℕ) → k < length shapes → Covers (slice_index_or shapes k blank) v
    → ((j : ℕ) → j < k → Covers (slice_index_or shapes j blank) v → ⊥) → phantom_reads shapes v ≡ (get_or shapes k blank).value
first_reads shapes v k h here before =
    found_at (λ l. phantom_reads l v) (λ s. covers s v) (λ s. s.value) 0 refl (reads_one v) shapes k blank h
    (λ j l. false_covers (slice_index_or shapes j blank) v (before j l)) (true_covers (slice_index_or shapes k blank) v here)

pub none_reads : (shapes : List Shape) (v : Voxel) → ((k : ℕ) → k < length shapes → Covers (slice_index_or shapes k blank) v → ⊥) → phantom_reads shapes v ≡ 0
none_reads shapes v none =
    found_nowhere (λ l. phantom_reads l v) (λ s. covers s v) (λ s. s.value) 0 refl (reads_one v) shapes blank
    (λ k h. false_covers (slice_index_or shapes k blank) v (none k h))

-- the first shape that covers a voxel counts
pub first_counts : (shapes : List Shape) (v : Voxel) → FirstCounts shapes v (phantom_reads shapes v)
first_counts shapes v = record { first = first_reads shapes v; none = none_reads shapes v }

all_bound : (shapes : List Shape) (v : Voxel) → all_fit shapes ≡ true → phantom_reads shapes v ≤ 65534
all_bound [] v e = zero-le
all_bound (s ∷ shapes) v e =
    let parts = and_parts (shape_fits s) (all_fit shapes) e in
    let here : s.value ≤ 65534 = (shape_true s parts.0).0 in
    let later : phantom_reads shapes v ≤ 65534 = all_bound shapes v parts.1 in
    elim (covers s v) as (λ b. first_or b s.value (phantom_reads shapes v) ≤ 65534) [ true ↦ here | false ↦ later ]

-- no reading of shapes in range is above 65,534
pub reads_bound : (shapes : List Shape) (v : Voxel) → shapes_fit shapes ≡ true → phantom_reads shapes v ≤ 65534
reads_bound shapes v e = all_bound shapes v (and_parts (nat_le (length shapes) 64) (all_fit shapes) e).1
