-- What a test over a list tells of its elements. Assumes nothing.
use Rattle.std.proofs.Common.{◌≡◌, ℕ, Bool, true, false, not, T, eqb, List, [], ◌∷◌, sym, subst, inl, inr, ⊎_elim, eqb→eq, T_not, ◌&&◌, ◌||◌}
use lib.Dec.{eqb_refl}
use Rattle.std.specs.List.{list_all, list_any}
use Rattle.std.proofs.Math.Facts.{or_yes, yes_and, and_yes}
use Rattle.cube.specs.Lists.{same, In, Distinct}

-- What two tests joined by 'and', by 'or' and by 'only if' tell of each.
pub and_left : (a b : Bool) → T (a && b) → T a
and_left a b t = (and_yes a b t).0

pub and_right : (a b : Bool) → T (a && b) → T b
and_right a b t = (and_yes a b t).1

pub or_left : (a b : Bool) → T a → T (a || b)
or_left true b t = tt
or_left false b t = absurd t

pub or_right : (a b : Bool) → T b → T (a || b)
or_right true b t = tt
or_right false b t = t

pub when : (a b : Bool) → T (elim a [ true ↦ b | false ↦ true ]) → T a → T b
when true b t h = t
when false b t h = absurd h

module _ {A : Type 0} (f : A → Bool) where
  pub every_at : (xs : List A) → T (list_all f xs) → (x : A) → In x xs → T (f x)
  every_at [] t x i = absurd i
  every_at (y ∷ ys) t x (inl e) = subst (λ z. T (f z)) (sym e) (and_left (f y) (list_all f ys) t)
  every_at (y ∷ ys) t x (inr i) = every_at ys (and_right (f y) (list_all f ys) t) x i

  pub some_at : (xs : List A) → T (list_any f xs) → (x : A) × In x xs × T (f x)
  some_at [] t = absurd t
  some_at (y ∷ ys) t =
      ⊎_elim (λ h. (y, inl mathlib.Core.Path.refl, h)) (λ h. let r = some_at ys h in (r.0, inr r.1, r.2)) (or_yes (f y) (list_any f ys) t)

-- A test that tells equal elements of a type.
module _ {A : Type 0} (test : A → A → Bool) (right : (x y : A) → T (test x y) → x ≡ y) where
  pub found : (x : A) (ys : List A) → T (list_any (test x) ys) → In x ys
  found x [] t = absurd t
  found x (y ∷ ys) t =
      ⊎_elim (λ h. inl (right x y h)) (λ h. inr (found x ys h)) (or_yes (test x y) (list_any (test x) ys) t)

module _ {A : Type 0} (test : A → A → Bool) (itself : (x : A) → T (test x x)) where
  pub finds : (x : A) (ys : List A) → In x ys → T (list_any (test x) ys)
  finds x [] i = absurd i
  finds x (y ∷ ys) (inl e) = or_left (test x y) (list_any (test x) ys) (subst (λ z. T (test x z)) e (itself x))
  finds x (y ∷ ys) (inr i) = or_right (test x y) (list_any (test x) ys) (finds x ys i)

  abbrev pub distinct : List A → Bool
  distinct [] = true
  distinct (x ∷ xs) = not (list_any (test x) xs) && distinct xs

  pub distinct_is : (xs : List A) → T (distinct xs) → Distinct xs
  distinct_is [] t = tt
  distinct_is (x ∷ xs) t = (
    λ i. T_not (list_any (test x) xs) (and_left (not (list_any (test x) xs)) (distinct xs) t) (finds x xs i),
    distinct_is xs (and_right (not (list_any (test x) xs)) (distinct xs) t),
  )

pub same_is : (d e : ℕ × ℕ) → T (same d e) → d ≡ e
same_is d e t =
    let p : d.0 ≡ e.0 = eqb→eq d.0 e.0 (and_left (eqb d.0 e.0) (eqb d.1 e.1) t) in
    let q : d.1 ≡ e.1 = eqb→eq d.1 e.1 (and_right (eqb d.0 e.0) (eqb d.1 e.1) t) in
    λ i. (p i, q i)

pub same_itself : (e : ℕ × ℕ) → T (same e e)
same_itself e = yes_and (eqb e.0 e.0) (eqb e.1 e.1) (eqb_refl e.0) (eqb_refl e.1)
