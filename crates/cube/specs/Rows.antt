-- What a table of 256 rows has to hold. Assumes nothing.
use Rattle.std.specs.Prelude.{ℕ, zero, suc, Bool, true, false, T, List, [], ◌∷◌, take, ◌==◌, nat_le, slice_index_or, ◌&&◌}
use Rattle.cube.specs.Cube.{kinds}
use Rattle.cube.specs.Triangles.{cut_all}
use Rattle.cube.specs.declared.pair.Connectedness.TheVariants.{Eighteen}
use Rattle.cube.specs.declared.rows.Row.{Row}
use Rattle.cube.specs.declared.triangle.CubeTriangle.{CubeTriangle}

-- Two triangles have the same corners in the same order; two lists have the same triangles in the same order.
abbrev pub same_triangle : CubeTriangle → CubeTriangle → Bool
same_triangle s t = (s.0 == t.0) && ((s.1 == t.1) && (s.2 == t.2))

abbrev pub same_triangles : List CubeTriangle → List CubeTriangle → Bool
same_triangles [] [] = true
same_triangles [] (t ∷ ts) = false
same_triangles (s ∷ ss) [] = false
same_triangles (s ∷ ss) (t ∷ ts) = same_triangle s t && same_triangles ss ts

-- A test passes at n numbers from i on.
abbrev pub passes : (ℕ → Bool) → ℕ → ℕ → Bool
passes f zero i = true
passes f (suc n) i = f i && passes f n (suc i)

-- What fills a row up.
abbrev pub none : CubeTriangle
none = record { 0 = 0; 1 = 0; 2 = 0 }

-- The triangles of a row stand in the first of its places.
abbrev pub places : Row → List CubeTriangle
places r = r.first ∷ r.second ∷ r.third ∷ r.fourth ∷ r.fifth ∷ none ∷ []

abbrev pub triangles_in : Row → List CubeTriangle
triangles_in r = take r.count (places r)

-- A row that has no triangle.
abbrev pub empty_row : Row
empty_row = record { count = 0; first = none; second = none; third = none; fourth = none; fifth = none }

-- At mask m the table has at most five triangles, which are those of the rules.
abbrev pub row_ruled : List Row → ℕ → Bool
row_ruled table m =
    let row = slice_index_or table m empty_row in
    nat_le row.count 5 && same_triangles (triangles_in row) (cut_all Eighteen (kinds m))

abbrev pub Ruled : List Row → Type 0
Ruled table = T (passes (row_ruled table) 256 0)
