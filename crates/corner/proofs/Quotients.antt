-- The ratio of two whole numbers, rounded once to a float, is near the ratio. Assumes nothing.
use Rattle.std.proofs.Common.{◌≡◌, ℕ, suc, ◌+◌, ◌-◌, ◌*◌, ◌/◌, ◌^◌, ◌<◌, ◌≤◌, false, ap, ◌∙◌, subst, arith}
use Rattle.std.proofs.Math.Nat.{le_of_mul-le-mul_right, lt_of_mul-lt-mul_right, lt_of_not-le, not-le_of_lt, lt_of_lt_of_le, mul-le-mul_left, mul-le-mul_right, mul-lt-mul_of_pos_right, mul-pos}
use Rattle.std.proofs.lemmas.Nat.{pow_pos, pow_below, pow-add, le-div, div_below}
use Rattle.std.specs.Float.{Format, binary32, binary64, float_zero, float_one}
use lib.Ieee.{round, prec, emax, low, size}
use lib.Ieee.Digits.{size-lt, size-le}
use lib.Ieee.Order.{drop, kept}
use lib.Ieee.Scale.{grid, overflow, round_val}
use lib.Pow.{pow_mono}
use Rattle.corner.specs.Fractions.{IsNear, IsProper}
use Rattle.corner.specs.Precision.{IsRatio}
use Rattle.corner.proofs.Halves.{IsWithinHalf, closest_within_half}
use Rattle.corner.proofs.Values.{smaller_terms, less_of_ratios, zero_ratio, one_ratio}

-- Plain numbers: K of J parts against n / d, all in units of P parts, of which S * P make one.
cancelled : (K d J P n S N u : ℕ) → 0 < P → N ≡ n * (S * P) → u ≡ J * P → IsWithinHalf N (d * u) K
    → (2 * (K * J * d) ≤ 2 * (n * S) + J * d) × (2 * (n * S) ≤ 2 * (K * J * d) + J * d)
cancelled K d J P n S N u some whole step h =
    let wide_step = ap (λ z. d * z) step in
    let kept_steps = ap (λ z. K * (d * z)) step in
    (le_of_mul-le-mul_right {k = P} (omega arith) some, le_of_mul-le-mul_right {k = P} (omega arith) some)

-- A number of parts that is near a ratio between 0 and 1, of a small divisor, lies between 0 and 1 itself.
strictly_inside : (m n d margin S : ℕ) → 0 < n → n < d → margin * d < S → m * d ≤ n * S + margin * d → n * S ≤ m * d + margin * d
    → (0 < m) × (m < S)
strictly_inside m n d margin S some under fine low high =
    let one : 1 * S ≤ n * S = mul-le-mul_right S some in
    let next : (n + 1) * S ≤ d * S = mul-le-mul_right S (omega arith) in
    (lt_of_mul-lt-mul_right d (omega arith), lt_of_mul-lt-mul_right d (omega arith))

-- Each format has room for more exponents than digits.
wide : (f : Format) → (2 ≤ prec f) × (prec f + 2 ≤ emax f)
wide binary32 = (omega arith, omega arith)
wide binary64 = (omega arith, omega arith)

module _ (f : Format) (e n d : ℕ) (few : 2 ≤ e) (narrow : e ≤ prec f) (some : 0 < n) (under : n < d) (most : d ≤ 2 ^ e) where
  -- The result is a whole number of parts, 2 ^ bits of them to one, and a part is 2 ^ spare of the format's smallest values.
  abbrev bits : ℕ
  bits = prec f - 1 + e

  abbrev spare : ℕ
  spare = low f - bits

  finer : low f ≡ bits + spare
  finer = let room = wide f in omega arith

  one_in_units : 2 ^ low f ≡ 2 ^ bits * 2 ^ spare
  one_in_units = ap (λ (z : ℕ). 2 ^ z) finer ∙ pow-add 2 bits spare

  -- The ratio in units of the smallest value has from low - e + 1 to low digits.
  abbrev units : ℕ
  units = n * 2 ^ low f

  many : low f - e < size (units / d)
  many =
      let room = wide f in
      let e_low : e ≤ low f = omega arith in
      let split : 2 ^ low f ≡ 2 ^ (low f - e) * 2 ^ e = ap (λ (z : ℕ). 2 ^ z) {x = low f} {y = low f - e + e} (omega arith) ∙ pow-add 2 (low f - e) e in
      let least : 2 ^ (low f - e) ≤ units / d =
      le-div (2 ^ (low f - e)) units d (omega arith)
      (omega (arith, split, mul-le-mul_left (2 ^ (low f - e)) most, mul-le-mul_right (2 ^ low f) some)) in
      lt_of_not-le (λ (g : size (units / d) ≤ low f - e). not-le_of_lt (lt_of_lt_of_le (size-lt (units / d)) (pow_mono g)) least)

  at_most : size (units / d) ≤ low f
  at_most = size-le (units / d) (low f) (div_below units d (2 ^ low f) (omega arith) (omega (arith, mul-lt-mul_of_pos_right under (pow_pos (low f)))))

  -- So it is rounded to a multiple of 2 ^ beyond parts, at most half of that off.
  abbrev beyond : ℕ
  beyond = drop (prec f) units d - spare

  dropped : (drop (prec f) units d ≡ beyond + spare) × (beyond ≤ e - 1)
  dropped = let room = wide f in let low_digits = many in let high_digits = at_most in (omega arith, omega arith)

  abbrev parts : ℕ
  parts = kept (prec f) units d * 2 ^ beyond

  step_in_units : 2 ^ drop (prec f) units d ≡ 2 ^ beyond * 2 ^ spare
  step_in_units = ap (λ (z : ℕ). 2 ^ z) dropped.0 ∙ pow-add 2 beyond spare

  small_step : 2 ^ beyond ≤ 2 * 2 ^ (e - 2)
  small_step = subst (λ (z : ℕ). 2 ^ beyond ≤ z) (ap (λ (z : ℕ). 2 ^ z) {x = e - 1} {y = 1 + (e - 2)} (omega arith) ∙ pow-add 2 1 (e - 2)) (pow_mono dropped.1)

  -- So the number of parts is off the ratio by at most 2 ^ (e - 2) of them,
  off : (parts * d ≤ n * 2 ^ bits + 2 ^ (e - 2) * d) × (n * 2 ^ bits ≤ parts * d + 2 ^ (e - 2) * d)
  off =
      let u = 2 ^ drop (prec f) units d in
      let half = closest_within_half units (d * u) (mul-pos {m = d} {n = u} (omega arith) (pow_pos (drop (prec f) units d))) in
      let close = cancelled (kept (prec f) units d) d (2 ^ beyond) (2 ^ spare) n (2 ^ bits) units u (pow_pos spare) (ap (λ z. n * z) one_in_units) step_in_units half in
      let step = mul-le-mul_right d small_step in
      (omega arith, omega arith)

  -- and is strictly between none and all.
  inside : (0 < parts) × (parts < 2 ^ bits)
  inside =
      let fine : 2 ^ (e - 2) * d < 2 ^ bits =
      omega (arith, mul-le-mul_left (2 ^ (e - 2)) most, pow-add 2 (e - 2) e, pow_below (e - 2 + e) bits (omega (arith, wide f))) in
      strictly_inside parts n d (2 ^ (e - 2)) (2 ^ bits) some under fine off.0 off.1

  -- That many parts are what the rounding gives, which is far from overflow.
  in_units : grid f n d ≡ parts * 2 ^ spare
  in_units = omega (arith, ap (λ z. kept (prec f) units d * z) step_in_units)

  finite : grid f n d < overflow f
  finite =
      let below_one : parts * 2 ^ spare < 2 ^ bits * 2 ^ spare = mul-lt-mul_of_pos_right inside.1 (pow_pos spare) in
      omega (arith, in_units, one_in_units, pow_mono {i = low f} {j = low f + suc (emax f)} (omega arith))

  counted : IsRatio (round f false n d) parts (2 ^ bits)
  counted =
      smaller_terms (round f false n d) parts (2 ^ bits) (2 ^ spare) (pow_pos spare)
      (subst (λ z. IsRatio (round f false n d) z (2 ^ bits * 2 ^ spare)) in_units
      (subst (λ z. IsRatio (round f false n d) (grid f n d) z) one_in_units (round_val f n d finite)))

  -- The rounded ratio is near the ratio.
  pub near : IsNear bits (2 ^ (e - 2)) n d (round f false n d)
  near = let o = off in record { parts = parts; counted = counted; within = omega arith }

  -- The rounded ratio lies strictly between 0 and 1.
  pub between : IsProper (round f false n d)
  between =
      let i = inside in
      record {
        above_zero = less_of_ratios float_zero _ 0 1 parts (2 ^ bits) (omega arith) (pow_pos bits) zero_ratio counted (omega arith);
        below_one = less_of_ratios _ float_one parts (2 ^ bits) 1 1 (pow_pos bits) (omega arith) counted one_ratio (omega arith);
      }
