-- What a tray stands over, past some place. Assumes nothing.
use Rattle.std.specs.Prelude.{◌≡◌, ℕ, ◌+◌, ◌-◌, ◌≤◌, List, length, drop, vec_items, refl}
use Rattle.std.specs.Vec.{SameBlock}
use Rattle.std.proofs.Common.{Vec, sym, ap, ◌∙◌, drop-drop, arith}

-- The list is as long as it was, and all past its first n items is the same.
abbrev pub SamePast : {X : Type 0} → ℕ → List X → List X → Type 0
SamePast n before after = (length after ≡ length before) × (drop n after ≡ drop n before)

further : {X : Type 0} (m k : ℕ) (xs ys : List X) → m ≤ k → drop m xs ≡ drop m ys → drop k xs ≡ drop k ys
further {X} m k xs ys le e =
    let on : m + (k - m) ≡ k = omega arith in
    let whole : (l : List X) → drop (k - m) (drop m l) ≡ drop k l = λ l. drop-drop (k - m) m l ∙ ap (λ j. drop j l) on in
    sym (whole xs) ∙ ap (drop (k - m)) e ∙ whole ys

-- After two steps in a row it is the same past any place that is past both.
past_both : {X : Type 0} (m n k : ℕ) (xs ys zs : List X) → m ≤ k → n ≤ k → SamePast m xs ys → SamePast n ys zs → SamePast k xs zs
past_both m n k xs ys zs p q h j = (j.0 ∙ h.0, further n k zs ys q j.1 ∙ further m k ys xs p h.1)

-- What a tray stands over is so past its first n items, and stays in its memory, which is as large as it was.
abbrev pub StaysPast : {X Z : Type 0} → ℕ → Vec X Z → Vec X Z → Type 0
StaysPast n before after = SamePast n (vec_items before) (vec_items after) × SameBlock before after

-- It is so where nothing was done, and after two steps in a row.
pub stays_past : {X Z : Type 0} (n : ℕ) (xs : Vec X Z) → StaysPast n xs xs
stays_past n xs = ((refl, refl), (refl, (refl, refl)))

pub stays_both : {X Z : Type 0} (m n k : ℕ) (xs ys zs : Vec X Z) → m ≤ k → n ≤ k → StaysPast m xs ys → StaysPast n ys zs → StaysPast k xs zs
stays_both m n k xs ys zs p q h j =
    (past_both m n k (vec_items xs) (vec_items ys) (vec_items zs) p q h.0 j.0, (j.1.0 ∙ h.1.0, (j.1.1.0 ∙ h.1.1.0, j.1.1.1 ∙ h.1.1.1)))
