-- The numbering of places is in range, one-to-one, and leads back. Assumes nothing.
use Rattle.std.proofs.Common.{◌≡◌, ℕ, ◌+◌, ◌*◌, ◌/◌, ◌%◌, ◌<◌, ◌≤◌, inl, inr, not-suc-le-zero, mod-lt, mul_comm, eq-zero-or-pos, zero-mul, arith}
use Rattle.std.proofs.lemmas.Nat.{div_below, mul-le, mul-add-lt, same_from_place}
use Rattle.grid.specs.Numbers.{Inside, place_count, voxel_number, link_number}

-- Places in a box of three sides.

-- a box with sides of at most 256 has at most 256³ places
pub count_bound : (nx ny nz : ℕ) → nx ≤ 256 → ny ≤ 256 → nz ≤ 256 → place_count nx ny nz ≤ 16777216
count_bound nx ny nz hx hy hz = mul-le nx (ny * nz) 256 65536 hx (mul-le ny nz 256 256 hy hz)

-- what stands before a place's row is as small
pub rows_bound : (nx ny nz y z : ℕ) → nx ≤ 256 → ny ≤ 256 → nz ≤ 256 → y < ny → z < nz → nx * (y + ny * z) ≤ 16777216
rows_bound nx ny nz y z hx hy hz ly lz =
    mul-le nx (y + ny * z) 256 65536 hx (omega (arith, mul-add-lt z ny y nz lz ly, mul-le ny nz 256 256 hy hz))

-- a place inside has a number below the count
pub place_below : (nx ny nz x y z : ℕ) → Inside nx ny nz x y z → voxel_number nx ny x y z < place_count nx ny nz
place_below nx ny nz x y z h =
    let row : y + ny * z < ny * nz = omega (arith, mul-add-lt z ny y nz h.2 h.1) in
    omega (arith, mul-add-lt (y + ny * z) nx x (ny * nz) row h.0)

-- two places inside with one number are one place
pub place_same : (nx ny nz x y z x' y' z' : ℕ) → Inside nx ny nz x y z → Inside nx ny nz x' y' z'
    → voxel_number nx ny x y z ≡ voxel_number nx ny x' y' z' → (x ≡ x') × (y ≡ y') × (z ≡ z')
place_same nx ny nz x y z x' y' z' h h' e =
    let row = same_from_place (y + ny * z) x (y' + ny * z') x' nx h.0 h'.0 (omega arith) in
    let column = same_from_place z y z' y' ny h.1 h'.1 (omega (arith, row.0)) in
    (row.1, column.1, column.0)

-- each number below the count is that of a place inside
pub place_back : (nx ny nz n : ℕ) → n < place_count nx ny nz
    → Inside nx ny nz (n % nx) (n / nx % ny) (n / nx / ny) × (n ≡ voxel_number nx ny (n % nx) (n / nx % ny) (n / nx / ny))
place_back nx ny nz n h =
    let px : 0 < nx = factor nx (ny * nz) n h in
    let row : n / nx < ny * nz = div_below n nx (ny * nz) px (rw (mul_comm (ny * nz) nx) h) in
    let py : 0 < ny = factor ny nz (n / nx) row in
    let column : n / nx / ny < nz = div_below (n / nx) ny nz py (rw (mul_comm nz ny) row) in
    let back : n / nx % ny + ny * (n / nx / ny) ≡ n / nx = omega arith in
    ((mod-lt n px, mod-lt (n / nx) py, column), rw back (omega arith))
  where
    factor : (a b k : ℕ) → k < a * b → 0 < a
    factor a b k l = elim (eq-zero-or-pos a) [ inl e ↦ absurd (not-suc-le-zero (rw (e, zero-mul) at l)) | inr p ↦ p ]

-- Links: three to each place.

-- the axis of a link and the number of its place below give the link's number its bound
pub link_below : (k axis count : ℕ) → k < count → axis < 3 → 3 * k + axis < 3 * count
link_below k axis count h a = omega arith

pub link_same : (nx ny nz x y z axis x' y' z' axis' : ℕ) → Inside nx ny nz x y z → Inside nx ny nz x' y' z' → axis < 3 → axis' < 3
    → link_number nx ny x y z axis ≡ link_number nx ny x' y' z' axis' → (x ≡ x') × (y ≡ y') × (z ≡ z') × (axis ≡ axis')
link_same nx ny nz x y z axis x' y' z' axis' h h' a a' e =
    let split = split_3 (voxel_number nx ny x y z) (voxel_number nx ny x' y' z') axis axis' a a' e in
    let place = place_same nx ny nz x y z x' y' z' h h' split.0 in
    (place.0, place.1, place.2, split.1)
  where
    split_3 : (k k' i i' : ℕ) → i < 3 → i' < 3 → 3 * k + i ≡ 3 * k' + i' → (k ≡ k') × (i ≡ i')
    split_3 k k' i i' b b' q = (omega arith, omega arith)
