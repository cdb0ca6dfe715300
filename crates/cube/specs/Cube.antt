-- The cube of eight voxels: its links, its faces, the kinds of its voxels, its mask. Assumes nothing.
use Rattle.std.specs.Prelude.{ℕ, ◌/◌, ◌%◌, ◌^◌, Bool, true, false, not, T, List, [], ◌∷◌, get_or, ◌==◌, slice_index_or, ◌||◌}
use Rattle.cube.specs.Lists.{same}

-- Voxel i of a cube lies dx, dy and dz from the cube's low voxel, where i = dx + 2 dy + 4 dz.
abbrev pub dx : ℕ → ℕ
dx i = i % 2

abbrev pub dy : ℕ → ℕ
dy i = i / 2 % 2

abbrev pub dz : ℕ → ℕ
dz i = i / 4 % 2

-- The twelve links, by their lower and their upper voxel, in the order of their numbers 0 to 11.
abbrev pub links : List (ℕ × ℕ)
links =
    (0, 1) ∷ (2, 3) ∷ (4, 5) ∷ (6, 7) ∷ (0, 2) ∷ (1, 3) ∷ (4, 6) ∷ (5, 7) ∷ (0, 4) ∷ (1, 5) ∷ (2, 6) ∷ (3, 7) ∷ []

abbrev pub voxels : List ℕ
voxels = 0 ∷ 1 ∷ 2 ∷ 3 ∷ 4 ∷ 5 ∷ 6 ∷ 7 ∷ []

abbrev pub link_numbers : List ℕ
link_numbers = 0 ∷ 1 ∷ 2 ∷ 3 ∷ 4 ∷ 5 ∷ 6 ∷ 7 ∷ 8 ∷ 9 ∷ 10 ∷ 11 ∷ []

abbrev pub lower : ℕ → ℕ
lower l = (get_or links l (0, 0)).0

abbrev pub upper : ℕ → ℕ
upper l = (get_or links l (0, 0)).1

-- The axis of a link: 0 for x, 1 for y, 2 for z.
abbrev pub axis : ℕ → ℕ
axis l = l / 4

-- A link joins two voxels, whichever is named first.
abbrev pub joins : ℕ → ℕ → ℕ → Bool
joins l a b = same (a, b) (lower l, upper l) || same (b, a) (lower l, upper l)

-- A face, by its four voxels as they are walked, and by the links that the walk passes from each to the next.
pub record Face : Type 0 where
  pub a : ℕ
  pub b : ℕ
  pub c : ℕ
  pub d : ℕ
  pub ab : ℕ
  pub bc : ℕ
  pub cd : ℕ
  pub da : ℕ

-- The walk passes the links between its voxels.
pub record Walked (f : Face) : Type 0 where
  pub ab : T (joins f.ab f.a f.b)
  pub bc : T (joins f.bc f.b f.c)
  pub cd : T (joins f.cd f.c f.d)
  pub da : T (joins f.da f.d f.a)

abbrev face : ℕ → ℕ → ℕ → ℕ → ℕ → ℕ → ℕ → ℕ → Face
face a b c d ab bc cd da = record { a = a; b = b; c = c; d = d; ab = ab; bc = bc; cd = cd; da = da }

-- The six faces, each walked anticlockwise as seen from inside the cube.
abbrev pub faces : List Face
faces =
    face 0 1 3 2 0 5 1 4 ∷
    face 4 6 7 5 6 3 7 2 ∷
    face 0 2 6 4 4 10 6 8 ∷
    face 1 5 7 3 9 7 11 5 ∷
    face 0 4 5 1 8 2 9 0 ∷
    face 2 3 7 6 1 11 3 10 ∷
    []

abbrev pub face_links : Face → List ℕ
face_links f = f.ab ∷ f.bc ∷ f.cd ∷ f.da ∷ []

-- The kinds of a cube's eight voxels: true where solid, false where hollow.
pub record Kinds : Type 0 where
  pub v0 : Bool
  pub v1 : Bool
  pub v2 : Bool
  pub v3 : Bool
  pub v4 : Bool
  pub v5 : Bool
  pub v6 : Bool
  pub v7 : Bool

abbrev pub solid : Kinds → ℕ → Bool
solid k i = slice_index_or (k.v0 ∷ k.v1 ∷ k.v2 ∷ k.v3 ∷ k.v4 ∷ k.v5 ∷ k.v6 ∷ k.v7 ∷ []) i false

-- Solid and hollow exchanged.
abbrev pub exchange : Kinds → Kinds
exchange k =
    record {
      v0 = not k.v0;
      v1 = not k.v1;
      v2 = not k.v2;
      v3 = not k.v3;
      v4 = not k.v4;
      v5 = not k.v5;
      v6 = not k.v6;
      v7 = not k.v7;
    }

-- Bit i of a mask is set where voxel i is solid.
abbrev pub bit : ℕ → ℕ → Bool
bit m i = m / 2 ^ i % 2 == 1

abbrev pub kinds : ℕ → Kinds
kinds m =
    record {
      v0 = bit m 0;
      v1 = bit m 1;
      v2 = bit m 2;
      v3 = bit m 3;
      v4 = bit m 4;
      v5 = bit m 5;
      v6 = bit m 6;
      v7 = bit m 7;
    }

-- The kinds that a list of eight tells.
abbrev pub kinds_in : List Bool → Kinds
kinds_in ks =
    record {
      v0 = slice_index_or ks 0 false;
      v1 = slice_index_or ks 1 false;
      v2 = slice_index_or ks 2 false;
      v3 = slice_index_or ks 3 false;
      v4 = slice_index_or ks 4 false;
      v5 = slice_index_or ks 5 false;
      v6 = slice_index_or ks 6 false;
      v7 = slice_index_or ks 7 false;
    }

-- A link carries a corner where one of its ends is solid and the other hollow.
abbrev pub crossing : Kinds → ℕ → Bool
crossing k l = elim (solid k (lower l)) [ true ↦ not (solid k (upper l)) | false ↦ solid k (upper l) ]
