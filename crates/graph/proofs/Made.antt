-- An array that a closure makes, place by place. Assumes nothing.
use Rattle.std.proofs.Common.{◌≡◌, ℕ, zero, suc, ◌+◌, ◌<◌, List, get_or, map, sym, refl, ◌∙◌, subst, arith}
use Rattle.std.specs.Array.{IsFromFnResult, IsFromFnResultFrom}
use Rattle.std.specs.Fn.{Called}
use Rattle.std.specs.List.{range_with_len}
use Rattle.std.proofs.lemmas.List.FromFn.{fill_by_all}
use denote.Param.Members.{Mut}

-- A closure that answers h and stays as it is makes the list of h at each place.
module _ {F B : Type 0} (g : Mut F (ℕ × Unit {0}) B) (h : ℕ → B) (f : F)
    (answers : (i : ℕ) (y : B) (q : F) → Called g f (i, tt) y q → (q ≡ f) × (y ≡ h i)) where
  at_place : (ys : List B) (d : B) (n i k : ℕ) (p : F) → p ≡ f → IsFromFnResultFrom g p ys i n → k < n → get_or ys (i + k) d ≡ h (i + k)
  at_place ys d zero i k p e made below = let z : ⊥ = omega arith in absurd z
  at_place ys d (suc n) i zero p e made below =
      let same : i + 0 ≡ i = omega arith in
      let here = answers i made.1 made.0 (subst (λ r. Called g r (i, tt) made.1 made.0) e made.3) in
      subst (λ j. get_or ys j d ≡ h j) (sym same) (made.2.1 d ∙ here.1)
  at_place ys d (suc n) i (suc k) p e made below =
      let same : i + suc k ≡ i + 1 + k = omega arith in
      let here = answers i made.1 made.0 (subst (λ r. Called g r (i, tt) made.1 made.0) e made.3) in
      subst (λ j. get_or ys j d ≡ h j) (sym same) (at_place ys d n (i + 1) k made.0 here.0 made.4 (omega arith))

  pub made_is : (ys : List B) (d : B) (n : ℕ) → IsFromFnResult g f ys n → ys ≡ map h (range_with_len 0 n)
  made_is ys d n made =
      fill_by_all h ys n d made.long
      (λ k below. let same : 0 + k ≡ k = omega arith in subst (λ j. get_or ys j d ≡ h j) same (at_place ys d n 0 k f refl made.each below))
