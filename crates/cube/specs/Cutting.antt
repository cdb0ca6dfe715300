-- How a loop is cut into triangles. Assumes nothing.
use Rattle.std.specs.Prelude.{ℕ, zero, suc, ◌+◌, Bool, true, false, List, [], ◌∷◌, ◌++◌, map, length, ℤ, pos, ◌+ℤ◌, ◌-ℤ◌, ◌*ℤ◌, int_le, nat_eq, nat_lt, slice_index, ◌&&◌, ◌||◌, flat_map, filter, not}
use Rattle.std.specs.List.{list_all, list_any}
use Rattle.cube.specs.Lists.{first, same}
use Rattle.cube.specs.Cube.{Face, faces, face_links, Kinds, solid, voxels, lower, upper, dx, dy, dz}
use Rattle.cube.specs.Loops.{corners}
use Rattle.cube.specs.declared.triangle.CubeTriangle.{CubeTriangle}

-- Two links lie on one face of the cube.
abbrev pub on_face : ℕ → ℕ → Face → Bool
on_face p q f = list_any (nat_eq p) (face_links f) && list_any (nat_eq q) (face_links f)

abbrev pub together : ℕ → ℕ → Bool
together p q = list_any (on_face p q) faces

-- An edge of the graph joins two corners, one way or the other: they are neighbours in their loop.
abbrev pub neighbours : List (ℕ × ℕ) → ℕ → ℕ → Bool
neighbours es p q = list_any (same (p, q)) es || list_any (same (q, p)) es

-- A point, in coordinates twice those of the cube, so that corners, midway on their links, have whole ones too.
pub record Point : Type 0 where
  pub x : ℤ
  pub y : ℤ
  pub z : ℤ

-- The point midway between two voxels.
abbrev pub midway : ℕ → ℕ → Point
midway i j = record { x = pos (dx i + dx j); y = pos (dy i + dy j); z = pos (dz i + dz j) }

abbrev pub voxel_point : ℕ → Point
voxel_point i = midway i i

abbrev pub corner_point : ℕ → Point
corner_point l = midway (lower l) (upper l)

abbrev pub minus : Point → Point → Point
minus a b = record { x = a.x -ℤ b.x; y = a.y -ℤ b.y; z = a.z -ℤ b.z }

abbrev pub cross : Point → Point → Point
cross u v =
    record {
      x = u.y *ℤ v.z -ℤ u.z *ℤ v.y;
      y = u.z *ℤ v.x -ℤ u.x *ℤ v.z;
      z = u.x *ℤ v.y -ℤ u.y *ℤ v.x;
    }

abbrev pub dot : Point → Point → ℤ
dot u v = u.x *ℤ v.x +ℤ (u.y *ℤ v.y +ℤ u.z *ℤ v.z)

-- The points that a triangle must not have in front of it: the solid voxels and the corners of the whole cube.
abbrev pub body : Kinds → List Point
body k = map voxel_point (filter (solid k) voxels) ++ map corner_point (corners k)

-- None of some points lies in front of a triangle: the determinant of q - p, r - p and w - p is at most 0 for each w.
abbrev pub behind : Point → Point → Point → List Point → Bool
behind p q r ws = let n = cross (minus q p) (minus r p) in list_all (λ w. int_le (dot n (minus w p)) (pos 0)) ws

-- Two corners may bound a triangle: they are neighbours in the loop, or no face holds both.
abbrev pub may_join : List (ℕ × ℕ) → ℕ → ℕ → Bool
may_join es p q = neighbours es p q || not (together p q)

-- A triangle is allowed: no side of it runs along a face unless it is a side of the loop, and the body lies behind it.
abbrev pub allowed : List (ℕ × ℕ) → List Point → ℕ → ℕ → ℕ → Bool
allowed es w p q r =
    may_join es p q && (may_join es q r && (may_join es p r && behind (corner_point p) (corner_point q) (corner_point r) w))

abbrev pub triangle : ℕ → ℕ → ℕ → CubeTriangle
triangle p q r = record { 0 = p; 1 = q; 2 = r }

-- A triangle written from its lowest link on.
abbrev pub from_low : ℕ → ℕ → ℕ → CubeTriangle
from_low p q r =
    elim (nat_lt q p) [
      | true ↦ elim (nat_lt r q) [ true ↦ triangle r p q | false ↦ triangle q r p ]
      | false ↦ elim (nat_lt r p) [ true ↦ triangle r p q | false ↦ triangle p q r ]
    ]

-- The numbers above i and below j, where n of them are looked at.
abbrev pub between : ℕ → ℕ → ℕ → List ℕ
between zero i j = []
between (suc n) i j = elim (nat_lt (suc i) j) [ true ↦ suc i ∷ between n (suc i) j | false ↦ [] ]

-- The triangles cut off a loop between its places i and j: at the smallest allowed middle m, then from i to m, then from m to j.
-- Two places with none between them lay nothing. A loop has at most twelve corners, so n = 12 is depth enough.
module _ (es : List (ℕ × ℕ)) (w : List Point) (loop : List ℕ) where
  abbrev pub middle : ℕ → ℕ → List ℕ
  middle i j = first (λ m. allowed es w (slice_index loop i) (slice_index loop m) (slice_index loop j)) (between 12 i j)

  abbrev pub cut : ℕ → ℕ → ℕ → List CubeTriangle
  cut zero i j = []
  cut (suc n) i j =
      flat_map (λ m. from_low (slice_index loop i) (slice_index loop m) (slice_index loop j) ∷ (cut n i m ++ cut n m j)) (middle i j)

-- The triangles of one loop: a loop of three is its own triangle, a longer one is cut from its first corner to its last.
abbrev pub cut_loop : List (ℕ × ℕ) → List Point → List ℕ → List CubeTriangle
cut_loop es w [] = []
cut_loop es w (p ∷ []) = []
cut_loop es w (p ∷ q ∷ []) = []
cut_loop es w (p ∷ q ∷ r ∷ []) = triangle p q r ∷ []
cut_loop es w (p ∷ q ∷ r ∷ t ∷ rest) = cut es w (p ∷ q ∷ r ∷ t ∷ rest) 12 0 (3 + length rest)
