-- The words on lists that the rules of the cube use, beside those of the library. Assumes nothing.
use Rattle.std.specs.Prelude.{◌≡◌, ℕ, Bool, true, false, ◌&&◌, ◌⊎◌, List, [], ◌∷◌, ◌==◌, nat_eq}

-- The first element that passes a test, as a list of one; none where no element passes.
abbrev pub first : {A : Type 0} → (A → Bool) → List A → List A
first f [] = []
first f (x ∷ xs) = elim (f x) [ true ↦ x ∷ [] | false ↦ first f xs ]

-- x stands in a list.
abbrev pub In : {A : Type 0} → A → List A → Type 0
In x [] = ⊥
In x (y ∷ ys) = (x ≡ y) ⊎ In x ys

-- No element stands twice in a list.
abbrev pub Distinct : {A : Type 0} → List A → Type 0
Distinct [] = Unit {0}
Distinct (x ∷ xs) = (In x xs → ⊥) × Distinct xs

-- Two pairs of numbers are the same.
abbrev pub same : ℕ × ℕ → ℕ × ℕ → Bool
same d e = d.0 == e.0 && nat_eq d.1 e.1
