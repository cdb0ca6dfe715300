-- Loops found link by link. Assumes nothing.
use Rattle.std.proofs.Common.{◌≡◌, ℕ, suc, ◌+◌, ◌<◌, Bool, true, false, cond, eqb, List, [], ◌∷◌, ◌++◌, map, get_or, drop, ap, ◌∙◌, append_assoc, add-one, eqb→eq, drop-cons}
use Rattle.std.proofs.lemmas.List.{map_push}
use Rattle.std.specs.List.{filter}
use Rattle.cube.specs.Cube.{Kinds, crossing, link_numbers}
use Rattle.cube.specs.Loops.{loop_from, lowest}
use Rattle.cube.proofs.Masks.{at}

module _ (k : Kinds) (es : List (ℕ × ℕ)) where
  -- The loops that begin at one of some links.
  abbrev pub loops_at : List ℕ → List (List ℕ)
  loops_at ls = map (loop_from es) (filter (lowest es) (filter (crossing k) ls))

  abbrev pub loops_past : ℕ → List (List ℕ)
  loops_past i = loops_at (drop i link_numbers)

  here : (i : ℕ) → i < 12 → drop i link_numbers ≡ i ∷ drop (i + 1) link_numbers
  here i h =
      let first : get_or link_numbers i 0 ≡ i = eqb→eq (get_or link_numbers i 0) i (at (λ n. eqb (get_or link_numbers n 0) n) 12 tt i h) in
      rw (add-one, drop-cons link_numbers i 0) (ap (λ l. l ∷ drop (suc i) link_numbers) first)

  -- no corner there
  pub past_level : (i : ℕ) → i < 12 → crossing k i ≡ false → loops_past i ≡ loops_past (i + 1)
  past_level i h e =
      let rest = filter (crossing k) (drop (i + 1) link_numbers) in
      ap loops_at (here i h) ∙ ap (λ b. map (loop_from es) (filter (lowest es) (cond b (i ∷ rest) rest))) e

  abbrev kept : ℕ → Bool → List (List ℕ)
  kept i b =
      let rest = filter (crossing k) (drop (i + 1) link_numbers) in
      map (loop_from es) (cond b (i ∷ filter (lowest es) rest) (filter (lowest es) rest))

  corner_here : (i : ℕ) → i < 12 → crossing k i ≡ true → loops_past i ≡ kept i (lowest es i)
  corner_here i h e =
      let rest = filter (crossing k) (drop (i + 1) link_numbers) in
      ap loops_at (here i h) ∙ ap (λ b. map (loop_from es) (filter (lowest es) (cond b (i ∷ rest) rest))) e

  -- a corner whose loop begins lower
  pub past_higher : (i : ℕ) → i < 12 → crossing k i ≡ true → lowest es i ≡ false → loops_past i ≡ loops_past (i + 1)
  past_higher i h e low = corner_here i h e ∙ ap (kept i) low

  -- the lowest corner of a loop
  pub past_lowest : (i : ℕ) → i < 12 → crossing k i ≡ true → lowest es i ≡ true → loops_past i ≡ loop_from es i ∷ loops_past (i + 1)
  past_lowest i h e low = corner_here i h e ∙ ap (kept i) low

-- One list more, read off what holds it.
pub push_read : {V : Type 0} (f : V → List ℕ) (xs : List V) (v : V) (rest : List (List ℕ)) → map f (xs ++ (v ∷ [])) ++ rest ≡ map f xs ++ (f v ∷ rest)
push_read f xs v rest = ap (λ ys. ys ++ rest) (map_push f xs v) ∙ append_assoc (map f xs) (f v ∷ []) rest

-- What is read off a holder that has been followed to its list.
pub read_on : {V W : Type 0} {u v : W} {vs : List V} {all : List (List ℕ)} (f : V → List ℕ) (items : W → List V) (rest : List (List ℕ))
    → u ≡ v → items v ≡ vs → map f vs ++ rest ≡ all → map f (items u) ++ rest ≡ all
read_on f items rest e g h = ap (λ w. map f (items w) ++ rest) e ∙ ap (λ ws. map f ws ++ rest) g ∙ h
