-- What holds at every mask, from one test that is computed at each of the 256. Assumes nothing.
use Rattle.std.proofs.Common.{◌≡◌, ℕ, zero, suc, ◌+◌, ◌<◌, ◌≤◌, Bool, T, eqb, leb, List, [], ◌∷◌, get_or, sym, refl, ◌∙◌, subst, ap₂, le_of_suc-le-suc, not-suc-le-zero, add-zero, add-suc, suc-add, zero-add, eqb→eq, leb→le, ◌&&◌}
use Rattle.cube.specs.Rows.{same_triangle, same_triangles, passes, empty_row, triangles_in, row_ruled, Ruled}
use Rattle.cube.specs.Cube.{kinds}
use Rattle.cube.specs.Triangles.{cut_all}
use Rattle.cube.specs.declared.pair.Connectedness.TheVariants.{Eighteen}
use Rattle.cube.specs.declared.rows.Row.{Row}
use Rattle.cube.specs.declared.triangle.CubeTriangle.{CubeTriangle}
use Rattle.cube.proofs.Listed.{and_left, and_right}

from : (f : ℕ → Bool) (n i : ℕ) → T (passes f n i) → (k : ℕ) → k < n → T (f (i + k))
from f zero i t k h = absurd (not-suc-le-zero h)
from f (suc n) i t zero h =
    subst (λ (m : ℕ). T (f m)) (sym (add-zero i)) (and_left (f i) (passes f n (suc i)) t)
from f (suc n) i t (suc k) h =
    subst (λ (m : ℕ). T (f m)) (suc-add i k ∙ sym (add-suc i k))
    (from f n (suc i) (and_right (f i) (passes f n (suc i)) t) k (le_of_suc-le-suc h))

pub at : (f : ℕ → Bool) (n : ℕ) → T (passes f n 0) → (k : ℕ) → k < n → T (f k)
at f n t k h = subst (λ (m : ℕ). T (f m)) (zero-add k) (from f n 0 t k h)

same_corners : (s t : CubeTriangle) → T (same_triangle s t) → s ≡ t
same_corners s t h =
    let rest : Bool = eqb s.1 t.1 && eqb s.2 t.2 in
    let h' : T rest = and_right (eqb s.0 t.0) rest h in
    let p : s.0 ≡ t.0 = eqb→eq s.0 t.0 (and_left (eqb s.0 t.0) rest h) in
    let q : s.1 ≡ t.1 = eqb→eq s.1 t.1 (and_left (eqb s.1 t.1) (eqb s.2 t.2) h') in
    let r : s.2 ≡ t.2 = eqb→eq s.2 t.2 (and_right (eqb s.1 t.1) (eqb s.2 t.2) h') in
    λ i. record { 0 = p i; 1 = q i; 2 = r i }

pub same_lists : (ss ts : List CubeTriangle) → T (same_triangles ss ts) → ss ≡ ts
same_lists [] [] h = refl
same_lists [] (t ∷ ts) h = absurd h
same_lists (s ∷ ss) [] h = absurd h
same_lists (s ∷ ss) (t ∷ ts) h =
    ap₂ (λ u us. u ∷ us) (same_corners s t (and_left (same_triangle s t) (same_triangles ss ts) h))
    (same_lists ss ts (and_right (same_triangle s t) (same_triangles ss ts) h))

-- A ruled table has the rules' triangles at every mask, and at most five of them.
module _ (table : List Row) (ruled : Ruled table) (m : ℕ) (h : m < 256) where
  abbrev row : Row
  row = get_or table m empty_row

  pub ruled_count : (get_or table m empty_row).count ≤ 5
  ruled_count = leb→le row.count 5 (and_left (leb row.count 5) (same_triangles (triangles_in row) (cut_all Eighteen (kinds m))) (at (row_ruled table) 256 ruled m h))

  pub ruled_row : triangles_in (get_or table m empty_row) ≡ cut_all Eighteen (kinds m)
  ruled_row = same_lists (triangles_in row) (cut_all Eighteen (kinds m)) (and_right (leb row.count 5) (same_triangles (triangles_in row) (cut_all Eighteen (kinds m))) (at (row_ruled table) 256 ruled m h))
