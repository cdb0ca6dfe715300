-- The six ways from a cube to a neighbour: two cubes that share two links share a face. Assumes nothing.
use mathlib.Core.Path.{◌≡◌, refl, sym, subst, ◌∙◌}
use mathlib.Core.Logic.{◌⊎◌, inl, inr, ⊎_elim}
use mathlib.Core.Bool.{Bool, true, false, ◌&&◌, ◌||◌}
use mathlib.Core.List.{List, [], ◌∷◌}
use Prim.Native.Nat.{ℕ}
use native.Mathlib.Omega.{arith}
use lib.Dec.{T, eqb, eqb→eq}
use lib.ListN.{get_or}
use Rattle.std.specs.List.{list_all, list_any}
use Rattle.grid.specs.declared.voxel.Voxel.{Voxel}
use Rattle.grid.proofs.Same.{voxel_same}
use Rattle.cube.specs.Lists.{In}
use Rattle.cube.specs.Cube.{Face, faces, link_numbers}
use Rattle.cube.specs.Cutting.{on_face}
use Rattle.std.proofs.Math.Facts.{or_yes}
use Rattle.cube.proofs.Listed.{and_left, and_right, when, every_at, some_at}
use Rattle.surface.specs.Places.{link_at}
use Rattle.surface.proofs.Offsets.{Off, less, level, more, Stands, Offset, Related, meets, same_meets, related}

pub data Way : Type 0 where
  down : Way
  up : Way
  west : Way
  east : Way
  south : Way
  north : Way

abbrev pub ways : List Way
ways = down ∷ up ∷ west ∷ east ∷ south ∷ north ∷ []

pub in_ways : (w : Way) → In w ways
in_ways down = inl refl
in_ways up = inr (inl refl)
in_ways west = inr (inr (inl refl))
in_ways east = inr (inr (inr (inl refl)))
in_ways south = inr (inr (inr (inr (inl refl))))
in_ways north = inr (inr (inr (inr (inr (inl refl)))))

-- The way back.
abbrev pub over : Way → Way
over down = up
over up = down
over west = east
over east = west
over south = north
over north = south

-- Where the neighbour lies.
abbrev pub offset_of : Way → Offset
offset_of down = (level, level, less)
offset_of up = (level, level, more)
offset_of west = (less, level, level)
offset_of east = (more, level, level)
offset_of south = (level, less, level)
offset_of north = (level, more, level)

-- The face through which the way leads, by its place among the faces of the cube.
abbrev place : Way → ℕ
place down = 0
place up = 1
place west = 2
place east = 3
place south = 4
place north = 5

abbrev no_face : Face
no_face = record { a = 0; b = 0; c = 0; d = 0; ab = 0; bc = 0; cd = 0; da = 0 }

abbrev pub face_of : Way → Face
face_of w = get_or faces (place w) no_face

pub face_in : (w : Way) → In (face_of w) faces
face_in down = inl refl
face_in up = inr (inl refl)
face_in west = inr (inr (inl refl))
face_in east = inr (inr (inr (inl refl)))
face_in south = inr (inr (inr (inr (inl refl))))
face_in north = inr (inr (inr (inr (inr (inl refl)))))

-- Every face of a cube is one through which a way leads.
pub way_through : (f : Face) → In f faces → (w : Way) × (f ≡ face_of w)
way_through f (inl e) = (down, e)
way_through f (inr (inl e)) = (up, e)
way_through f (inr (inr (inl e))) = (west, e)
way_through f (inr (inr (inr (inl e)))) = (east, e)
way_through f (inr (inr (inr (inr (inl e))))) = (south, e)
way_through f (inr (inr (inr (inr (inr (inl e)))))) = (north, e)
way_through f (inr (inr (inr (inr (inr (inr i)))))) = absurd i

-- Two offsets are the same.
abbrev same_off : Off → Off → Bool
same_off less less = true
same_off less level = false
same_off less more = false
same_off level less = false
same_off level level = true
same_off level more = false
same_off more less = false
same_off more level = false
same_off more more = true

same_off_is : (o q : Off) → T (same_off o q) → o ≡ q
same_off_is less less t = refl
same_off_is less level t = absurd t
same_off_is less more t = absurd t
same_off_is level less t = absurd t
same_off_is level level t = refl
same_off_is level more t = absurd t
same_off_is more less t = absurd t
same_off_is more level t = absurd t
same_off_is more more t = refl

abbrev same_offset : Offset → Offset → Bool
same_offset o q =
    same_off o.0 q.0 && (same_off o.1 q.1 && same_off o.2 q.2)

same_offset_is : (o q : Offset) → T (same_offset o q) → o ≡ q
same_offset_is o q t =
    let yz = same_off o.1 q.1 && same_off o.2 q.2 in
    let r = and_right (same_off o.0 q.0) yz t in
    let x = same_off_is o.0 q.0 (and_left (same_off o.0 q.0) yz t) in
    let y = same_off_is o.1 q.1 (and_left (same_off o.1 q.1) (same_off o.2 q.2) r) in
    let z = same_off_is o.2 q.2 (and_right (same_off o.1 q.1) (same_off o.2 q.2) r) in
    λ n. (x n, y n, z n)

-- A test passes at every offset.
abbrev each : (Off → Bool) → Bool
each f = f less && (f level && f more)

each_at : (f : Off → Bool) → T (each f) → (o : Off) → T (f o)
each_at f t less = and_left (f less) (f level && f more) t
each_at f t level = and_left (f level) (f more) (and_right (f less) (f level && f more) t)
each_at f t more = and_right (f level) (f more) (and_right (f less) (f level && f more) t)

abbrev here : Offset
here = (level, level, level)

-- An offset is that of a way through a face that holds two links.
abbrev leads : Offset → ℕ → ℕ → Way → Bool
leads o i k w = same_offset o (offset_of w) && on_face i k (face_of w)

-- Two cubes that share the links i and k are one cube, or a way leads from one to the other through the face that holds both.
abbrev reaches : Offset → ℕ → ℕ → Bool
reaches o i k = same_offset o here || list_any (leads o i k) ways

abbrev then_reaches : Offset → ℕ → ℕ → ℕ → Bool
then_reaches o i k l = elim (meets o k l) [ true ↦ eqb i k || reaches o i k | false ↦ true ]

abbrev shared : Offset → ℕ → ℕ → Bool
shared o i j = elim (meets o i j) [ true ↦ list_all (λ k. list_all (then_reaches o i k) link_numbers) link_numbers | false ↦ true ]

abbrev all_links : Offset → Bool
all_links o = list_all (λ i. list_all (shared o i) link_numbers) link_numbers

all_shared : T (each λ x. each λ y. each λ z. all_links (x, y, z))
all_shared = tt

shared_at : (o : Offset) (i j k l : ℕ) → In i link_numbers → In j link_numbers → In k link_numbers → In l link_numbers
    → T (meets o i j) → T (meets o k l) → T (eqb i k || reaches o i k)
shared_at o i j k l hi hj hk hl m n =
    let tx = each_at (λ x. each λ y. each λ z. all_links (x, y, z)) all_shared o.0 in
    let ty = each_at (λ y. each λ z. all_links (o.0, y, z)) tx o.1 in
    let tz = each_at (λ z. all_links (o.0, o.1, z)) ty o.2 in
    let tj = every_at (shared o i) link_numbers (every_at (λ i. list_all (shared o i) link_numbers) link_numbers tz i hi) j hj in
    let rest = when (meets o i j) (list_all (λ k. list_all (then_reaches o i k) link_numbers) link_numbers) tj m in
    let tl = every_at (then_reaches o i k) link_numbers (every_at (λ k. list_all (then_reaches o i k) link_numbers) link_numbers rest k hk) l hl in
    when (meets o k l) (eqb i k || reaches o i k) tl n

-- A neighbour is where its offset says.
stands_once : (o : Off) (a b c : ℕ) → Stands o a b → Stands o a c → b ≡ c
stands_once less a b c h k = omega arith
stands_once level a b c h k = sym h ∙ k
stands_once more a b c h k = h ∙ sym k

pub placed_once : (o : Offset) (u v w : Voxel) → Related o u v → Related o u w → v ≡ w
placed_once o u v w h k =
    voxel_same v w (
      stands_once o.0 u.x v.x w.x h.0 k.0,
      stands_once o.1 u.y v.y w.y h.1 k.1,
      stands_once o.2 u.z v.z w.z h.2 k.2,
    )

-- Link i of one cube is link j of another, and link k of it is link l of the other, where i and k are two links:
-- then the cubes are one, or neighbours through the face that holds both links.
pub meeting : (u v : Voxel) (i j k l : ℕ) → In i link_numbers → In j link_numbers → In k link_numbers → In l link_numbers
    → link_at u i ≡ link_at v j → link_at u k ≡ link_at v l → (i ≡ k → ⊥)
    → (u ≡ v) ⊎ ((w : Way) × Related (offset_of w) u v × T (on_face i k (face_of w)))
meeting u v i j k l hi hj hk hl e f two =
    let r = related u v i j e in
    let o = r.0 in
    let t = shared_at o i j k l hi hj hk hl (same_meets o u v r.1 i j e) (same_meets o u v r.1 k l f) in
    ⊎_elim (λ q. absurd (two (eqb→eq i k q)))
    (λ q.
    ⊎_elim (λ q. inl (placed_once here u u v (refl, refl, refl) (subst (λ o. Related o u v) (same_offset_is o here q) r.1)))
    (λ q.
    let s = some_at (leads o i k) ways q in
    let on = and_right (same_offset o (offset_of s.0)) (on_face i k (face_of s.0)) s.2 in
    let is = same_offset_is o (offset_of s.0) (and_left (same_offset o (offset_of s.0)) (on_face i k (face_of s.0)) s.2) in
    inr (s.0, subst (λ o. Related o u v) is r.1, on)) (or_yes (same_offset o here) (list_any (leads o i k) ways) q))
    (or_yes (eqb i k) (reaches o i k) t)

-- One way at most leads through a face that holds two links.
abbrev one_way_out : ℕ → ℕ → Way → Way → Bool
one_way_out i k w x =
    elim (on_face i k (face_of w)) [
      | true ↦ elim (on_face i k (face_of x)) [ true ↦ same_offset (offset_of w) (offset_of x) | false ↦ true ]
      | false ↦ true
    ]

abbrev out_once : ℕ → ℕ → Bool
out_once i k = eqb i k || list_all (λ w. list_all (one_way_out i k w) ways) ways

all_out_once : T (list_all (λ i. list_all (out_once i) link_numbers) link_numbers)
all_out_once = tt

pub same_way : (i k : ℕ) → In i link_numbers → In k link_numbers → (i ≡ k → ⊥) → (w x : Way)
    → T (on_face i k (face_of w)) → T (on_face i k (face_of x)) → offset_of w ≡ offset_of x
same_way i k hi hk two w x t q =
    let at = every_at (out_once i) link_numbers (every_at (λ i. list_all (out_once i) link_numbers) link_numbers all_out_once i hi) k hk in
    ⊎_elim (λ e. absurd (two (eqb→eq i k e)))
    (λ all.
    let tx = every_at (one_way_out i k w) ways (every_at (λ w. list_all (one_way_out i k w) ways) ways all w (in_ways w)) x (in_ways x) in
    same_offset_is (offset_of w) (offset_of x)
    (when (on_face i k (face_of x)) (same_offset (offset_of w) (offset_of x))
    (when (on_face i k (face_of w)) (elim (on_face i k (face_of x)) [ true ↦ same_offset (offset_of w) (offset_of x) | false ↦ true ]) tx t) q))
    (or_yes (eqb i k) (list_all (λ w. list_all (one_way_out i k w) ways) ways) at)
