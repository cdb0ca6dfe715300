-- What stands in lists that are joined or mapped. Assumes nothing.
use mathlib.Core.Path.{◌≡◌, refl, sym, ap, subst}
use mathlib.Core.Logic.{◌⊎◌, inl, inr, ⊎_elim}
use mathlib.Core.Bool.{Bool, true, false, cond}
use mathlib.Core.List.{List, [], ◌∷◌, ◌++◌, map}
use lib.Dec.{T}
use Rattle.std.specs.List.{flat_map, filter, list_any}
use Rattle.cube.specs.Lists.{In, Distinct}
use Rattle.cube.proofs.Listed.{or_left, or_right}

-- A test passes or it does not.
pub decide : (b : Bool) → T b ⊎ (T b → ⊥)
decide true = inl tt
decide false = inr (λ t. t)

module _ {A : Type 0} where
  pub in_left : (x : A) (xs ys : List A) → In x xs → In x (xs ++ ys)
  in_left x [] ys i = absurd i
  in_left x (y ∷ xs) ys (inl e) = inl e
  in_left x (y ∷ xs) ys (inr i) = inr (in_left x xs ys i)

  pub in_right : (x : A) (xs ys : List A) → In x ys → In x (xs ++ ys)
  in_right x [] ys i = i
  in_right x (y ∷ xs) ys i = inr (in_right x xs ys i)

  pub in_either : (x : A) (xs ys : List A) → In x (xs ++ ys) → In x xs ⊎ In x ys
  in_either x [] ys i = inr i
  in_either x (y ∷ xs) ys (inl e) = inl (inl e)
  in_either x (y ∷ xs) ys (inr i) = ⊎_elim (λ h. inl (inr h)) inr (in_either x xs ys i)

  -- Lists without repetition that share nothing are without repetition together.
  pub distinct_both : (xs ys : List A) → Distinct xs → Distinct ys → ((x : A) → In x xs → In x ys → ⊥) → Distinct (xs ++ ys)
  distinct_both [] ys d e off = e
  distinct_both (x ∷ xs) ys d e off = (
    λ i. ⊎_elim d.0 (off x (inl refl)) (in_either x xs ys i),
    distinct_both xs ys d.1 e (λ y i. off y (inr i)),
  )

  -- What is kept of a list stands in it, and passed the test.
  pub kept : (f : A → Bool) (x : A) (xs : List A) → In x (filter f xs) → In x xs × T (f x)
  kept f x [] i = absurd i
  kept f x (y ∷ ys) i = go (f y) refl i (kept f x ys)
    where
      go : (b : Bool) → f y ≡ b → In x (cond b (y ∷ filter f ys) (filter f ys)) → (In x (filter f ys) → In x ys × T (f x)) → In x (y ∷ ys) × T (f x)
      go true e (inl q) rest = (inl q, subst (λ z. T (f z)) (sym q) (subst T (sym e) tt))
      go true e (inr j) rest = (inr (rest j).0, (rest j).1)
      go false e j rest = (inr (rest j).0, (rest j).1)

  -- What stands in a list and passes a test is kept.
  pub keeps : (f : A → Bool) (x : A) (xs : List A) → T (f x) → In x xs → In x (filter f xs)
  keeps f x [] t i = absurd i
  keeps f x (y ∷ ys) t i = go (f y) refl i (keeps f x ys t)
    where
      go : (b : Bool) → f y ≡ b → In x (y ∷ ys) → (In x ys → In x (filter f ys)) → In x (cond b (y ∷ filter f ys) (filter f ys))
      go true e (inl q) rest = inl q
      go true e (inr j) rest = inr (rest j)
      go false e (inl q) rest = absurd (subst T e (subst (λ z. T (f z)) q t))
      go false e (inr j) rest = rest j

  -- A test that one element passes is passed by some.
  pub some_in : (f : A → Bool) (x : A) (xs : List A) → In x xs → T (f x) → T (list_any f xs)
  some_in f x [] i t = absurd i
  some_in f x (y ∷ ys) (inl e) t = or_left (f y) (list_any f ys) (subst (λ z. T (f z)) e t)
  some_in f x (y ∷ ys) (inr i) t = or_right (f y) (list_any f ys) (some_in f x ys i t)

  -- A fact for each element of a list, and what it says of one.
  abbrev pub All : (A → Type 0) → List A → Type 0
  All P [] = Unit {0}
  All P (x ∷ xs) = P x × All P xs

  pub all_at : (P : A → Type 0) (xs : List A) → All P xs → (x : A) → In x xs → P x
  all_at P [] h x i = absurd i
  all_at P (y ∷ ys) h x (inl e) = subst P (sym e) h.0
  all_at P (y ∷ ys) h x (inr i) = all_at P ys h.1 x i

module _ {A B : Type 0} (f : A → B) where
  pub in_map : (x : A) (xs : List A) → In x xs → In (f x) (map f xs)
  in_map x [] i = absurd i
  in_map x (y ∷ ys) (inl e) = inl (ap f e)
  in_map x (y ∷ ys) (inr i) = inr (in_map x ys i)

  pub map_in : (y : B) (xs : List A) → In y (map f xs) → (x : A) × In x xs × (y ≡ f x)
  map_in y [] i = absurd i
  map_in y (x ∷ xs) (inl e) = (x, inl refl, e)
  map_in y (x ∷ xs) (inr i) = let r = map_in y xs i in (r.0, inr r.1, r.2)

  -- A function that keeps the elements of a list apart repeats none of them.
  pub distinct_map : (xs : List A) → ((x y : A) → In x xs → In y xs → f x ≡ f y → x ≡ y) → Distinct xs → Distinct (map f xs)
  distinct_map [] one d = tt
  distinct_map (x ∷ xs) one d = (
    λ i. let r = map_in (f x) xs i in d.0 (subst (λ y. In y xs) (sym (one x r.0 (inl refl) (inr r.1) r.2)) r.1),
    distinct_map xs (λ y z i j. one y z (inr i) (inr j)) d.1,
  )

pub flat_map_in : {A B : Type 0} (f : A → List B) (y : B) (x : A) (xs : List A) → In x xs → In y (f x) → In y (flat_map f xs)
flat_map_in f y x [] i j = absurd i
flat_map_in f y x (z ∷ zs) (inl e) j = in_left y (f z) (flat_map f zs) (subst (λ w. In y (f w)) e j)
flat_map_in f y x (z ∷ zs) (inr i) j = in_right y (f z) (flat_map f zs) (flat_map_in f y x zs i j)
