-- A list of eight, place by place. Assumes nothing.
use Rattle.std.proofs.Common.{◌≡◌, List, [], ◌∷◌, length, get_or, refl, arith}

module _ {A : Type 0} (d : A) where
  abbrev pub spelled : List A → List A
  spelled xs =
      get_or xs 0 d ∷ get_or xs 1 d ∷ get_or xs 2 d ∷ get_or xs 3 d ∷ get_or xs 4 d ∷ get_or xs 5 d ∷ get_or xs 6 d ∷ get_or xs 7 d ∷ []

  pub eight : (xs : List A) → length xs ≡ 8 → spelled xs ≡ xs
  eight [] h = let z : ⊥ = omega arith in absurd z
  eight (a ∷ []) h = let z : ⊥ = omega arith in absurd z
  eight (a ∷ b ∷ []) h = let z : ⊥ = omega arith in absurd z
  eight (a ∷ b ∷ c ∷ []) h = let z : ⊥ = omega arith in absurd z
  eight (a ∷ b ∷ c ∷ e ∷ []) h = let z : ⊥ = omega arith in absurd z
  eight (a ∷ b ∷ c ∷ e ∷ f ∷ []) h = let z : ⊥ = omega arith in absurd z
  eight (a ∷ b ∷ c ∷ e ∷ f ∷ g ∷ []) h = let z : ⊥ = omega arith in absurd z
  eight (a ∷ b ∷ c ∷ e ∷ f ∷ g ∷ i ∷ []) h = let z : ⊥ = omega arith in absurd z
  eight (a ∷ b ∷ c ∷ e ∷ f ∷ g ∷ i ∷ j ∷ []) h = refl
  eight (a ∷ b ∷ c ∷ e ∷ f ∷ g ∷ i ∷ j ∷ x ∷ xs) h = let z : ⊥ = omega arith in absurd z
