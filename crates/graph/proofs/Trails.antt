-- A loop followed corner by corner. Assumes nothing.
use Rattle.std.proofs.Common.{◌≡◌, ℕ, suc, ◌+◌, ◌-◌, ◌<◌, Bool, true, false, List, [], ◌∷◌, ◌++◌, sym, ap, ◌∙◌, append_assoc, arith}
use Rattle.std.proofs.lemmas.Bool.{eq-eqb, ne_eqb}
use Rattle.cube.specs.Loops.{next, trail}

abbrev after : Bool → List ℕ → List ℕ
after b rest = elim b [ true ↦ [] | false ↦ rest ]

-- With n corners more to follow at the i-th of twelve steps.
left : (i : ℕ) → i < 12 → 12 - i ≡ suc (12 - (i + 1))
left i h = omega arith

module _ (es : List (ℕ × ℕ)) (from : ℕ) where
  -- one corner more
  pub trail_more : (i p q : ℕ) (xs all : List ℕ) → i < 12 → q ≡ next es p → (q ≡ from → ⊥)
      → xs ++ trail (12 - i) es from p ≡ all → (xs ++ (p ∷ [])) ++ trail (12 - (i + 1)) es from q ≡ all
  trail_more i p q xs all h e off inv =
      let n = 12 - (i + 1) in
      let split : trail (12 - i) es from p ≡ p ∷ trail n es from q =
      ap (λ m. trail m es from p) (left i h)
      ∙ ap (λ b. p ∷ after b (trail n es from (next es p))) (ne_eqb (next es p) from (λ z. off (e ∙ z)))
      ∙ ap (λ r. p ∷ trail n es from r) (sym e) in
      append_assoc xs (p ∷ []) (trail n es from q) ∙ sym (ap (λ ys. xs ++ ys) split) ∙ inv

  -- the last corner
  pub trail_last : (i p q : ℕ) (xs all : List ℕ) → i < 12 → q ≡ next es p → q ≡ from
      → xs ++ trail (12 - i) es from p ≡ all → xs ++ (p ∷ []) ≡ all
  trail_last i p q xs all h e on inv =
      let n = 12 - (i + 1) in
      let split : trail (12 - i) es from p ≡ p ∷ [] =
      ap (λ m. trail m es from p) (left i h)
      ∙ ap (λ b. p ∷ after b (trail n es from (next es p))) (eq-eqb (next es p) from (sym e ∙ on)) in
      sym (ap (λ ys. xs ++ ys) split) ∙ inv
