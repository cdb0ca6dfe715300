-- The two lines with which the output of the program ends. Assumes nothing.
use Rattle.std.specs.Prelude.{ℕ, List, [], ◌∷◌, ◌++◌}
use Rattle.tray.specs.Decimal.{digits}

-- At an end: E, the cubes and the triangles, in eight digits each.
unfoldable pub end_text : ℕ → ℕ → List ℕ
end_text cubes triangles = 69 ∷ 44 ∷ (digits 8 cubes ++ (44 ∷ (digits 8 triangles ++ (10 ∷ []))))

-- At a refusal: R, its number in two digits, and what it tells in eight.
unfoldable pub refusal_text : ℕ → ℕ → List ℕ
refusal_text number told = 82 ∷ 44 ∷ (digits 2 number ++ (44 ∷ (digits 8 told ++ (10 ∷ []))))
