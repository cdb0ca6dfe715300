-- Across each face of a cube lies a cube of the scan, or the face lies on the scan's border. Assumes nothing.
use mathlib.Core.Path.{◌≡◌, refl, ◌∙◌}
use mathlib.Core.Logic.{◌⊎◌, inl, inr, ⊎_elim}
use mathlib.Core.Bool.{Bool}
use mathlib.Core.List.{[]}
use Prim.Native.Nat.{ℕ, zero, suc, ◌+◌, ◌≤◌, ◌<◌}
use native.Mathlib.Nat.{eq-or-lt_of_le}
use native.Mathlib.Omega.{arith}
use Rattle.grid.specs.Voxels.{OnBorder}
use Rattle.grid.specs.Cubes.{Low}
use Rattle.grid.specs.declared.axis.Axis.TheVariants.{X, Y, Z}
use Rattle.grid.specs.declared.sides.Sides.{Sides}
use Rattle.grid.specs.declared.voxel.Voxel.{Voxel}
use Rattle.cube.specs.Graph.{graph_on}
use Rattle.cube.specs.declared.pair.Connectedness.{Connectedness}
use Rattle.surface.specs.Places.{Solids, voxel_at, kinds_at}
use Rattle.surface.specs.Fronts.{OneBorder}
use Rattle.surface.proofs.Numbered.{after, holds_at}
use Rattle.surface.proofs.Offsets.{Related}
use Rattle.surface.proofs.Ways.{Way, down, up, west, east, south, north, offset_of, face_of}
use Rattle.surface.proofs.Faces.{walked, no_edge}

-- The four voxels of the face through which a way leads lie on the border.
pub record Rim (s : Sides) (w : Way) (u : Voxel) : Type 0 where
  pub a : OnBorder s (voxel_at u (face_of w).a)
  pub b : OnBorder s (voxel_at u (face_of w).b)
  pub c : OnBorder s (voxel_at u (face_of w).c)
  pub d : OnBorder s (voxel_at u (face_of w).d)

-- A coordinate is the first, or it has one before it.
first_or_after : (a : ℕ) → (a ≡ 0) ⊎ ((b : ℕ) × (a ≡ suc b))
first_or_after zero = inl refl
first_or_after (suc b) = inr (b, refl)

-- The coordinate behind a cube is the last, or there is one more.
last_or_before : (a n : ℕ) → a + 1 < n → (suc a + 1 ≡ n) ⊎ (suc a + 1 < n)
last_or_before a n h =
    let le : suc a + 1 ≤ n = omega arith in
    eq-or-lt_of_le le

before : (a b n : ℕ) → a ≡ suc b → a + 1 < n → b + 1 < n
before a b n e h = omega arith

module _ (s : Sides) where
  -- A neighbour in the scan, or a face on the border.
  abbrev Across : Way → Voxel → Type 0
  Across w u = ((v : Voxel) × Low s v × Related (offset_of w) u v) ⊎ Rim s w u

  module _ (u : Voxel) (h : Low s u) where
    -- A voxel of the cube whose coordinate along an axis is the first or the last lies on the border.
    first_x : (i : ℕ) → (voxel_at u i).x ≡ 0 → OnBorder s (voxel_at u i)
    first_x i e = (holds_at s u h i, inl e)

    last_x : (i : ℕ) → (voxel_at u i).x + 1 ≡ s.x → OnBorder s (voxel_at u i)
    last_x i e = (holds_at s u h i, inr (inl e))

    first_y : (i : ℕ) → (voxel_at u i).y ≡ 0 → OnBorder s (voxel_at u i)
    first_y i e = (holds_at s u h i, inr (inr (inl e)))

    last_y : (i : ℕ) → (voxel_at u i).y + 1 ≡ s.y → OnBorder s (voxel_at u i)
    last_y i e = (holds_at s u h i, inr (inr (inr (inl e))))

    first_z : (i : ℕ) → (voxel_at u i).z ≡ 0 → OnBorder s (voxel_at u i)
    first_z i e = (holds_at s u h i, inr (inr (inr (inr (inl e)))))

    last_z : (i : ℕ) → (voxel_at u i).z + 1 ≡ s.z → OnBorder s (voxel_at u i)
    last_z i e = (holds_at s u h i, inr (inr (inr (inr (inr e)))))

    pub across : (w : Way) → Across w u
    across down =
        ⊎_elim (λ e. inr (record { a = first_z 0 e; b = first_z 1 e; c = first_z 3 e; d = first_z 2 e }))
        (λ r. inl (record { x = u.x; y = u.y; z = r.0 }, (h.0, h.1, before u.z r.0 s.z r.1 h.2), (refl, refl, r.1)))
        (first_or_after u.z)
    across up =
        ⊎_elim (λ e. inr (record { a = last_z 4 e; b = last_z 6 e; c = last_z 7 e; d = last_z 5 e }))
        (λ l. inl (after Z u, (h.0, h.1, l), (refl, refl, refl))) (last_or_before u.z s.z h.2)
    across west =
        ⊎_elim (λ e. inr (record { a = first_x 0 e; b = first_x 2 e; c = first_x 6 e; d = first_x 4 e }))
        (λ r. inl (record { x = r.0; y = u.y; z = u.z }, (before u.x r.0 s.x r.1 h.0, h.1, h.2), (r.1, refl, refl)))
        (first_or_after u.x)
    across east =
        ⊎_elim (λ e. inr (record { a = last_x 1 e; b = last_x 5 e; c = last_x 7 e; d = last_x 3 e }))
        (λ l. inl (after X u, (l, h.1, h.2), (refl, refl, refl))) (last_or_before u.x s.x h.0)
    across south =
        ⊎_elim (λ e. inr (record { a = first_y 0 e; b = first_y 4 e; c = first_y 5 e; d = first_y 1 e }))
        (λ r. inl (record { x = u.x; y = r.0; z = u.z }, (h.0, before u.y r.0 s.y r.1 h.1, h.2), (refl, r.1, refl)))
        (first_or_after u.y)
    across north =
        ⊎_elim (λ e. inr (record { a = last_y 2 e; b = last_y 3 e; c = last_y 7 e; d = last_y 6 e }))
        (λ l. inl (after Y u, (h.0, l, h.2), (refl, refl, refl))) (last_or_before u.y s.y h.1)

  module _ (c : Connectedness) (solids : Solids) (u : Voxel) where
    -- The kind of a voxel of the cube where it lies.
    abbrev at : ℕ → Bool
    at i = solids (voxel_at u i)

    -- The graph on a face by the kinds of its voxels where they lie.
    graph_at : (w : Way) → let f = face_of w in graph_on c (kinds_at solids u) f ≡ walked c f (at f.a) (at f.b) (at f.c) (at f.d)
    graph_at down = refl
    graph_at up = refl
    graph_at west = refl
    graph_at east = refl
    graph_at south = refl
    graph_at north = refl

    -- A face on a border of one kind has no edge.
    pub bare : (w : Way) → OneBorder s solids → Rim s w u → graph_on c (kinds_at solids u) (face_of w) ≡ []
    bare w one r =
        let f = face_of w in
        let a = one.1 (voxel_at u f.a) r.a in
        let b = one.1 (voxel_at u f.b) r.b in
        let d = one.1 (voxel_at u f.c) r.c in
        let e = one.1 (voxel_at u f.d) r.d in
        graph_at w ∙ (λ n. walked c f (a n) (b n) (d n) (e n)) ∙ no_edge c f one.0
