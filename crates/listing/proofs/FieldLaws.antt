-- What each field of a line is read as. Assumes nothing.
use Rattle.std.proofs.Common.{◌≡◌, ℕ, Bool, true, false, eqb, ◌&&◌, List, [], ◌∷◌, Some, None, Option, cond, refl, ap, ◌∙◌, arith}
use Rattle.std.specs.Cmp.Derive.{both_true}
use Rattle.std.proofs.lemmas.Bool.{leb-true, le-leb, eqb-true}
use Rattle.std.proofs.lemmas.Option.{cond_some}
use Rattle.std.proofs.Math.Dec.{leb}
use Rattle.drawing.specs.declared.letter.Letter.{Letter}
use Rattle.drawing.specs.declared.letter.Letter.TheVariants.{H, L}
use Rattle.listing.specs.Inputs.{WritesSide, letter_byte}
use Rattle.listing.specs.Numerals.{Writes}
use Rattle.listing.specs.Fields.{◌>>=◌, letter_field, letter_of, number_field, number_read, side, side_field, with_none}
use Rattle.listing.proofs.CutLaws.{some_same}
use Rattle.listing.proofs.Numbers.{both, number_of_written, written_number_of}

-- What a chain of readings gives, each of them gives.
pub bound : {A B : Type 0} (o : Option A) (f : A → Option B) (y : B) → (o >>= f) ≡ Some y → (x : A) × (o ≡ Some x) × (f x ≡ Some y)
bound None f y e = absurd (cc)
bound (Some x) f y e = (x, refl, e)

-- A number is read where the first field writes one.
pub number_taken : (fs more : List (List ℕ)) (n : ℕ) → number_field fs ≡ Some (n, more) → (f : List ℕ) × (fs ≡ f ∷ more) × Writes f n
number_taken [] more n e = absurd (cc)
number_taken (f ∷ fs) more n e =
    let told = bound (number_read f) (λ m. Some (m, fs)) (n, more) e in
    let same = some_same (told.0, fs) (n, more) told.2 in
    (f, ap (λ p. f ∷ p.1) same, written_number_of f n (told.1 ∙ ap (λ p. Some p.0) same))

pub number_again : (f : List ℕ) (fs : List (List ℕ)) (n : ℕ) → Writes f n → number_field (f ∷ fs) ≡ Some (n, fs)
number_again f fs n writes = ap (λ o. o >>= (λ m. Some (m, fs))) (number_of_written f n writes)

-- A side is read where the first field writes one.
pub side_taken : (fs more : List (List ℕ)) (n : ℕ) → side_field fs ≡ Some (n, more) → (f : List ℕ) × (fs ≡ f ∷ more) × WritesSide f n
side_taken fs more n e =
    let told = bound (number_field fs) side (n, more) e in
    let m = told.0.0 in
    let within = cond_some (leb 1 m && leb m 256) told.0 (n, more) told.2 in
    let tests = both (leb 1 m) (leb m 256) within.0 in
    let taken = number_taken fs more n (told.1 ∙ ap Some within.1) in
    let same : m ≡ n = ap (λ p. p.0) within.1 in
    (taken.0, taken.1, record { number = taken.2; low = omega (arith, leb-true 1 m tests.0, same); high = omega (arith, leb-true m 256 tests.1, same) })

pub side_again : (f : List ℕ) (fs : List (List ℕ)) (n : ℕ) → WritesSide f n → side_field (f ∷ fs) ≡ Some (n, fs)
side_again f fs n writes =
    ap (λ o. o >>= side) (number_again f fs n writes.number)
    ∙ ap (λ b. cond b (Some (n, fs)) None) (both_true (le-leb 1 n writes.low) (le-leb n 256 writes.high))

letter_told : (b : ℕ) (l : Letter) (s t : Bool) → (s ≡ true → b ≡ 72) → (t ≡ true → b ≡ 76) → cond s (Some H) (cond t (Some L) None) ≡ Some l → b ≡ letter_byte l
letter_told b l true t high low e = high refl ∙ ap letter_byte (some_same H l e)
letter_told b l false true high low e = low refl ∙ ap letter_byte (some_same L l e)
letter_told b l false false high low e = absurd (cc)

letter_byte_of : (f : List ℕ) (l : Letter) → letter_of f ≡ Some l → f ≡ letter_byte l ∷ []
letter_byte_of [] l e = absurd (cc)
letter_byte_of (b ∷ []) l e = ap (λ c. c ∷ []) (letter_told b l (eqb b 72) (eqb b 76) (eqb-true b 72) (eqb-true b 76) e)
letter_byte_of (b ∷ c ∷ bs) l e = absurd (cc)

-- A letter is read where the first field is its byte.
pub letter_taken : (fs more : List (List ℕ)) (l : Letter) → letter_field fs ≡ Some (l, more) → fs ≡ (letter_byte l ∷ []) ∷ more
letter_taken [] more l e = absurd (cc)
letter_taken (f ∷ fs) more l e =
    let told = bound (letter_of f) (λ m. Some (m, fs)) (l, more) e in
    let same = some_same (told.0, fs) (l, more) told.2 in
    let field = letter_byte_of f l (told.1 ∙ ap (λ p. Some p.0) same) in
    λ i. field i ∷ (same i).1

pub letter_again : (fs : List (List ℕ)) (l : Letter) → letter_field ((letter_byte l ∷ []) ∷ fs) ≡ Some (l, fs)
letter_again fs H = refl
letter_again fs L = refl

-- No field is left.
pub none_left : {A : Type 0} (x y : A) (fs : List (List ℕ)) → with_none x fs ≡ Some y → (fs ≡ []) × (x ≡ y)
none_left x y [] e = (refl, cc)
none_left x y (f ∷ fs) e = absurd (cc)
