-- Floats as ratios of whole numbers: what is exact, the order, and the operations. Assumes nothing.
use Rattle.std.proofs.Common.{◌≡◌, ℕ, ℤ, ◌+◌, ◌*◌, ◌^◌, ◌<◌, ◌≤◌, true, false, ap, ◌∙◌, refl, arith, inl, inr}
use Rattle.std.proofs.Math.Nat.{eq_of_mul-eq-mul_right, mul-pos, zero-mul}
use Rattle.std.proofs.lemmas.Bool.{cases_lt, lt-ltb, ne_eqb, true≢false}
use Rattle.std.proofs.lemmas.Float.{lt_irrefl, lt_of_le_of_lt, T_from_true}
use Rattle.std.specs.Float.{Float, Format, nan, inf, fin, float_zero, float_one, ◌<ᶠ◌, ◌≤ᶠ◌}
use Rattle.std.specs.Float.Ieee
use Rattle.std.specs.Float.Order.{lt_at}
use lib.Ieee.Back.{round_whole}
use lib.Ieee.Fits.{down_pos}
use lib.Ieee.{up, down, round, of_int, prec, add, sum, mul, div}
use lib.Ieee.Scale.{round_same}
use Rattle.corner.specs.Precision.{whole, IsRatio}

-- A float that is a ratio is finite and not negative: what holds of each such float holds of it.
by_ratio : (x : Float) (a c : ℕ) (P : Float → Type 0) → ((m : ℕ) (e : ℤ) → m * up e * c ≡ a * down e → P (fin false m e)) → IsRatio x a c → P x
by_ratio nan a c P h v = absurd v
by_ratio (inf s) a c P h v = absurd v
by_ratio (fin true m e) a c P h v = absurd (true≢false v.0)
by_ratio (fin false m e) a c P h v = h m e v.1

-- The same of two floats.
pub by_both : (x y : Float) (a c b d : ℕ) (P : Float → Float → Type 0)
    → ((m : ℕ) (e : ℤ) (n : ℕ) (g : ℤ) → m * up e * c ≡ a * down e → n * up g * d ≡ b * down g → P (fin false m e) (fin false n g))
    → IsRatio x a c → IsRatio y b d → P x y
by_both x y a c b d P h v w = by_ratio x a c (λ x. P x y) (λ m e v. by_ratio y b d (P (fin false m e)) (λ n g w. h m e n g v w) w) v

-- One ratio in larger and in smaller terms.
pub larger_terms : (x : Float) (a c k : ℕ) → IsRatio x a c → IsRatio x (a * k) (c * k)
larger_terms x a c k = by_ratio x a c (λ x. IsRatio x (a * k) (c * k)) (λ m e v. (refl, omega (arith, ap (λ (z : ℕ). z * k) v)))

pub smaller_terms : (x : Float) (a c k : ℕ) → 0 < k → IsRatio x (a * k) (c * k) → IsRatio x a c
smaller_terms x a c k some =
    by_ratio x (a * k) (c * k) (λ x. IsRatio x a c) (λ m e v. (refl, eq_of_mul-eq-mul_right k some (m * up e * c) (a * down e) (omega (arith, v))))

-- A conversion is one rounding, and up to 2 ^ prec it changes nothing.
pub conversion : (f : Format) (n : ℕ) → whole f n ≡ round f false n 1
unfolding of_int
conversion f n = refl

pub whole_exact : (f : Format) (n : ℕ) → n ≤ 2 ^ prec f → IsRatio (whole f n) n 1
whole_exact f n small = rw (conversion f n) (round_whole f false n small)

pub zero_ratio : IsRatio float_zero 0 1
zero_ratio = (refl, refl)

pub one_ratio : IsRatio float_one 1 1
one_ratio = (refl, refl)

-- The order of two floats is that of their ratios.
pub less_of_ratios : (x y : Float) (a c b d : ℕ) → 0 < c → 0 < d → IsRatio x a c → IsRatio y b d → a * d < b * c → x <ᶠ y
less_of_ratios x y a c b d some some' v w h = T_from_true _ (lt_at x y a c b d some some' v w ∙ lt-ltb _ _ h)

pub ratios_of_le : (x y : Float) (a c b d : ℕ) → 0 < c → 0 < d → IsRatio x a c → IsRatio y b d → x ≤ᶠ y → a * d ≤ b * c
ratios_of_le x y a c b d some some' v w h =
    elim (cases_lt (b * c) (a * d)) [
      | inl over ↦ absurd (lt_irrefl x (lt_of_le_of_lt x y x h (less_of_ratios y x b d a c some' some w v over)))
      | inr under ↦ under
    ]

-- One operation on exact ratios is one rounding of the exact result.
pub quotient_is : (f : Format) (x y : Float) (a b : ℕ) → 0 < b → IsRatio x a 1 → IsRatio y b 1 → Ieee.div f x y ≡ round f false a b
unfolding div
quotient_is f x y a b some =
    by_both x y a 1 b 1 (λ x y. Ieee.div f x y ≡ round f false a b) (λ m e n g v w.
    let divisor : 0 < n * up g * down e = mul-pos (omega (arith, w, mul-pos some (down_pos g))) (down_pos e) in
    rw (ne_eqb n 0 (λ z. omega (arith, zero-mul (up g), rw z at divisor)))
    (round_same f false (m * up e * down g) (n * up g * down e) a b divisor some
    (omega (arith, ap (λ z. z * (down g * b)) v, ap (λ z. a * down e * z) w))))

pub sum_is : (f : Format) (x y : Float) (a b c : ℕ) → 0 < c → IsRatio x a c → IsRatio y b c → Ieee.add f x y ≡ round f false (a + b) c
unfolding add sum
sum_is f x y a b c some =
    by_both x y a c b c (λ x y. Ieee.add f x y ≡ round f false (a + b) c) (λ m e n g v w.
    round_same f false (m * up e * down g + n * up g * down e) (down e * down g) (a + b) c (mul-pos (down_pos e) (down_pos g)) some
    (omega (arith, ap (λ z. z * down g) v, ap (λ z. z * down e) w)))

pub product_is : (f : Format) (x y : Float) (a c b d : ℕ) → 0 < c → 0 < d → IsRatio x a c → IsRatio y b d → Ieee.mul f x y ≡ round f false (a * b) (c * d)
unfolding mul
product_is f x y a c b d some some' =
    by_both x y a c b d (λ x y. Ieee.mul f x y ≡ round f false (a * b) (c * d)) (λ m e n g v w.
    round_same f false (m * up e * (n * up g)) (down e * down g) (a * b) (c * d) (mul-pos (down_pos e) (down_pos g)) (mul-pos some some')
    (omega (arith, ap (λ z. z * (n * up g * d)) v, ap (λ z. a * down e * z) w)))
