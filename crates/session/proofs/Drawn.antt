-- Two draws of drawings that stand alike draw as many cubes and end alike. Assumes nothing.
use Rattle.std.proofs.Common.{◌≡◌, ℕ, ◌+◌, ◌<◌, ◌≤◌, length, sym, refl, ap, ◌∙◌, subst, inl, inr, ⊎_elim, arith}
use Rattle.std.proofs.lemmas.Bool.{cases_lt}
use Rattle.grid.specs.Cubes.{cube_count}
use Rattle.scan.specs.Meaning.{Meaning}
use Rattle.scan.specs.declared.fault.Fault.{Fault}
use Rattle.surface.specs.Places.{low_of}
use Rattle.drawing.specs.Draws.{Allowed, Greatest, Ends}
use Rattle.drawing.specs.Laying.{surface, cube_lays, Readable, FirstFault}
use Rattle.drawing.specs.declared.drawing.Drawing.{Drawing}
use Rattle.drawing.specs.declared.progress.Ending.{Ending}
use Rattle.drawing.specs.declared.progress.Ending.TheVariants.{Done, Budget, Lacking, Full}
use Rattle.session.specs.Ways.{Way}
use Rattle.session.proofs.Levels.{Level, compare}
use Rattle.session.proofs.Likewise.{Likewise, as_many, as_many_in_cube}
use Rattle.drawing.proofs.Reaching.{no_fault}
use Rattle.session.proofs.Lowest.{one_fault}

-- The law of an ending, as what is asked one after the other.
abbrev InOrder : Meaning → Drawing → (budget k free : ℕ) → Ending → Type 0
InOrder m d budget k free e =
    Level (d.cubes + k ≡ cube_count d.sides) (e ≡ Done)
    (Level (k ≡ budget) (e ≡ Budget)
    (Level (Readable m (low_of d.sides (d.cubes + k))) (e ≡ Full (length (cube_lays m d (d.cubes + k))) free)
    ((f : Fault) × (e ≡ Lacking (low_of d.sides (d.cubes + k)) f) × FirstFault m (low_of d.sides (d.cubes + k)) f)))

-- A number below another is not that one.
less : (a b : ℕ) → a < b → a ≡ b → ⊥
less a b below same = omega arith

-- Every ending came that way.
in_order : (m : Meaning) (d : Drawing) (budget k free : ℕ) (e : Ending) → Ends m d budget k free e → InOrder m d budget k free e
in_order m d budget k free Done o = inl (o, refl)
in_order m d budget k free Budget o = inr (less _ _ o.0, inl (o.1, refl))
in_order m d budget k free (Lacking cube fault) o =
    let at = o.2.0 in
    let first = subst (λ v. FirstFault m v fault) at o.2.1 in
    inr (less _ _ o.0, inr (less _ _ o.1, inr ((λ read. no_fault m _ fault read first), (fault, ap (λ v. Lacking v fault) at, first))))
in_order m d budget k free (Full triangles told) o =
    inr (less _ _ o.0, inr (less _ _ o.1, inl (o.2.0, (λ i. Full (o.2.1 i) (o.2.2 i)))))

module _ (way : Way) (m : Meaning) (d d' : Drawing) (like : Likewise way m d d') where
  -- Both have as many cubes, and go on at the same one.
  same_count : cube_count d'.sides ≡ cube_count d.sides
  same_count = ap cube_count like.sides

  same_low : (k : ℕ) → low_of d'.sides (d'.cubes + k) ≡ low_of d.sides (d.cubes + k)
  same_low k i = low_of (like.sides i) (like.cubes i + k)

  -- With k more readable cubes all cubes up to there have their readings.
  pub read_to : (k : ℕ) → ((n : ℕ) → d.cubes ≤ n → n < d.cubes + k → Readable m (low_of d.sides n))
      → (n : ℕ) → n < d.cubes + k → Readable m (low_of d.sides n)
  read_to k further n below =
      ⊎_elim (λ (drawn : n < d.cubes). like.read n drawn) (λ (from : d.cubes ≤ n). further n from below) (cases_lt n d.cubes)

  -- The surfaces before and after have as many triangles.
  many_before : length (surface m d' d'.cubes) ≡ length (surface m d d.cubes)
  many_before = ap (λ c. length (surface m d' c)) like.cubes ∙ as_many way m d d' like d.cubes like.read

  many_after : (k : ℕ) → ((n : ℕ) → n < d.cubes + k → Readable m (low_of d.sides n))
      → length (surface m d' (d'.cubes + k)) ≡ length (surface m d (d.cubes + k))
  many_after k read = ap (λ c. length (surface m d' (c + k))) like.cubes ∙ as_many way m d d' like (d.cubes + k) read

  many_in_cube : (k : ℕ) → Readable m (low_of d.sides (d.cubes + k))
      → length (cube_lays m d' (d'.cubes + k)) ≡ length (cube_lays m d (d.cubes + k))
  many_in_cube k read = ap (λ c. length (cube_lays m d' (c + k))) like.cubes ∙ as_many_in_cube way m d d' like (d.cubes + k) read

  -- The first fault of the next cube is the same.
  same_fault : (k : ℕ) (f g : Fault) → FirstFault m (low_of d.sides (d.cubes + k)) f
      → FirstFault m (low_of d'.sides (d'.cubes + k)) g → g ≡ f
  same_fault k f g a b =
      one_fault m (low_of d.sides (d.cubes + k)) f g a (subst (λ v. FirstFault m v g) (same_low k) b)

  module _ (budget free free' : ℕ) (same_free : free' ≡ free) where
    -- What is allowed of the one is allowed of the other.
    allowed_to : (k : ℕ) → Allowed m d free budget k → Allowed m d' free' budget k
    allowed_to k a =
        let before = many_before in
        let after = many_after k (read_to k a.read) in
        let count = same_count in
        record {
          budgeted = a.budgeted;
          cubes = omega arith;
          read = λ n from below. subst (λ s. Readable m (low_of s n)) (sym like.sides) (a.read n (omega arith) (omega arith));
          room = omega arith;
        }

    allowed_back : (k : ℕ) → Allowed m d' free' budget k → Allowed m d free budget k
    allowed_back k a =
        let read : (n : ℕ) → d.cubes ≤ n → n < d.cubes + k → Readable m (low_of d.sides n)
        = λ n from below. subst (λ s. Readable m (low_of s n)) like.sides (a.read n (omega arith) (omega arith)) in
        let before = many_before in
        let after = many_after k (read_to k read) in
        let count = same_count in
        record { budgeted = a.budgeted; cubes = omega arith; read = read; room = omega arith }

    -- As many cubes are drawn.
    pub same_drawn : (k k' : ℕ) → Greatest (Allowed m d free budget) k → Greatest (Allowed m d' free' budget) k' → k' ≡ k
    same_drawn k k' a b =
        let up = a.most k' (allowed_back k' b.holds) in
        let down = b.most k (allowed_to k a.holds) in
        omega arith

    -- And they end alike.
    order_alike : (k : ℕ) (e e' : Ending) → InOrder m d budget k free e → InOrder m d' budget k free' e' → e' ≡ e
    order_alike k e e' =
        let count = same_count in
        let cubes = like.cubes in
        compare (λ done. omega arith) (λ done. omega arith) (λ _ p q. q ∙ sym p)
        (compare (λ used. used) (λ used. used) (λ _ p q. q ∙ sym p)
        (compare
        (subst (Readable m) (sym (same_low k)))
        (subst (Readable m) (same_low k))
        (λ read p q. q ∙ (λ i. Full (many_in_cube k read i) (same_free i)) ∙ sym p)
        (λ l l'. l'.1 ∙ (λ i. Lacking (same_low k i) (same_fault k l.0 l'.0 l.2 l'.2 i)) ∙ sym l.1)))

    -- So two endings by the law are one.
    pub ends_alike : (k : ℕ) (e e' : Ending) → Ends m d budget k free e → Ends m d' budget k free' e' → e' ≡ e
    ends_alike k e e' o o' = order_alike k e e' (in_order m d budget k free e o) (in_order m d' budget k free' e' o')
