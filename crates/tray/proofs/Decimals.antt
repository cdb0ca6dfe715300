-- Eight digits and their number: reading what is written, and writing what is read. Assumes nothing.
use Rattle.std.proofs.Common.{◌≡◌, ℕ, zero, suc, ◌+◌, ◌-◌, ◌*◌, ◌/◌, ◌%◌, ◌^◌, ◌<◌, ◌≤◌, List, [], ◌∷◌, ◌++◌, length, get_or, take, sym, refl, ap, ◌∙◌, subst, ⊎_elim, pow-suc, arith, length-append}
use native.Mathlib.Nat.{pow-zero}
use Rattle.std.proofs.lemmas.List.{get_or_append_left, get_or_push, take_more}
use Rattle.std.proofs.lemmas.Bool.{cases_lt}
use Rattle.tray.specs.Decimal.{digits, value_after}

-- Digits are as many as are asked for.
pub length_digits : (k n : ℕ) → length (digits k n) ≡ k
unfolding digits
length_digits zero n = refl
length_digits (suc k) n = length-append (digits k (n / 10)) _ ∙ omega (arith, length_digits k (n / 10))

-- A digit more at the end.
pub digits_more : (k n : ℕ) → digits (k + 1) n ≡ digits k (n / 10) ++ ((48 + n % 10) ∷ [])
unfolding digits
digits_more k n = let one : k + 1 ≡ suc k = omega arith in ap (λ j. digits j n) one

tens : (n d : ℕ) → d < 10 → ((10 * n + d) / 10 ≡ n) × ((10 * n + d) % 10 ≡ d)
tens n d h = (omega arith, omega arith)

pub digits_push : (k n d : ℕ) → d < 10 → digits (k + 1) (10 * n + d) ≡ digits k n ++ ((48 + d) ∷ [])
digits_push k n d h =
    digits_more k (10 * n + d) ∙ (λ i. digits k ((tens n d h).0 i) ++ ((48 + (tens n d h).1 i) ∷ []))

value_push : (n : ℕ) (bs : List ℕ) (b : ℕ) → value_after n (bs ++ (b ∷ [])) ≡ 10 * value_after n bs + (b - 48)
unfolding value_after
value_push n [] b = refl
value_push n (c ∷ bs) b = value_push (10 * n + (c - 48)) bs b

-- The number that written digits spell.
pub value_digits : (k n : ℕ) → n < 10 ^ k → value_after 0 (digits k n) ≡ n
unfolding digits value_after
value_digits zero n h = omega (arith, pow-zero 10)
value_digits (suc k) n h =
    let front : n / 10 < 10 ^ k = omega (arith, pow-suc 10 k) in
    value_push 0 (digits k (n / 10)) (48 + n % 10) ∙ omega (arith, value_digits k (n / 10) front)

-- Two numbers with the same digits are one.
pub same_number : (k m n : ℕ) → m < 10 ^ k → n < 10 ^ k → digits k m ≡ digits k n → m ≡ n
same_number k m n p q e = sym (value_digits k m p) ∙ ap (value_after 0) e ∙ value_digits k n q

-- Each byte of written digits is a digit.
abbrev Digit : ℕ → Type 0
Digit b = (48 ≤ b) × (b < 58)

last_digit : (n : ℕ) → Digit (48 + n % 10)
last_digit n = (omega arith, omega arith)

pub digit_at : (k n i : ℕ) → i < k → Digit (get_or (digits k n) i 0)
unfolding digits
digit_at zero n i h = absurd (omega arith)
digit_at (suc k) n i h =
    let long = length_digits k (n / 10) in
    let front = digits k (n / 10) in
    ⊎_elim
    (λ (below : i < k).
    let within : i < length front = omega arith in
    rw (get_or_append_left front ((48 + n % 10) ∷ []) 0 i within) (digit_at k (n / 10) i below))
    (λ (above : k ≤ i).
    let last : length front ≡ i = omega arith in
    rw (get_or_push front (48 + n % 10) 0 i last) (last_digit n))
    (cases_lt i k)

-- No bytes are no digits.
pub digits_none : (bs : List ℕ) (n : ℕ) → length bs ≡ 0 → bs ≡ digits (length bs) n
unfolding digits
digits_none [] n none = refl
digits_none (b ∷ bs) n none = absurd (omega arith)

-- A loop that reads from the first digit on: n is the number of the first i.
pub below_more : (i n d : ℕ) → n < 10 ^ i → d < 10 → 10 * n + d < 10 ^ (i + 1)
below_more i n d small digit = let one : i + 1 ≡ suc i = omega arith in subst (λ j. 10 * n + d < 10 ^ j) (sym one) (omega (arith, pow-suc 10 i))

pub read_more : (bs : List ℕ) (i n d : ℕ) → i < length bs → d < 10 → get_or bs i 0 ≡ 48 + d → take i bs ≡ digits i n → take (i + 1) bs ≡ digits (i + 1) (10 * n + d)
read_more bs i n d within small byte e =
    take_more bs i 0 within
    ∙ (λ k. e k ++ (byte k ∷ []))
    ∙ sym (digits_push i n d small)
