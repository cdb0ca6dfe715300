-- The fraction of a link, from its readings. Assumes nothing.
use Rattle.std.proofs.Common.{◌≡◌, ℕ, ◌+◌, ◌*◌, ◌^◌, ◌<◌, ◌≤◌, false, inl, inr, refl, ap, arith}
use Rattle.std.specs.Float.Ieee
use lib.Ieee.{round}
use Rattle.corner.specs.Fractions.{to_level, whole_way, IsQuotient, IsNear, IsProper, IsFraction}
use Rattle.corner.specs.Levels.{Crosses, PassesAt}
use Rattle.corner.specs.Precision.{format, whole}
use Rattle.corner.proofs.Quotients.{near, between}
use Rattle.corner.proofs.Values.{whole_exact, quotient_is}

-- Where the surface crosses a link, the level lies strictly between the readings.
part_of_way : (level low high : ℕ) → Crosses level low high → (0 < to_level level low) × (to_level level low < whole_way low high)
part_of_way level low high (inl rising) = (omega arith, omega arith)
part_of_way level low high (inr falling) = (omega arith, omega arith)

-- The ratio of the two ways is where the straight line between the readings passes the level.
passes : (level low high : ℕ) → Crosses level low high → PassesAt level low high (to_level level low) (whole_way low high)
passes level low high crosses =
    let n = to_level level low in
    let d = whole_way low high in
    elim crosses [
      | inl rising ↦ rises level low high n d (omega arith) (omega arith)
      | inr falling ↦ falls level low high n d (omega arith) (omega arith)
    ]
  where
    rises : (t u v n d : ℕ) → t ≡ 2 * u + n → 2 * v ≡ 2 * u + d → PassesAt t u v n d
    rises t u v n d level upper = rw (level, upper) (omega arith)

    falls : (t u v n d : ℕ) → 2 * u ≡ t + n → 2 * u ≡ 2 * v + d → PassesAt t u v n d
    falls t u v n d level upper = omega (arith, ap (λ z. z * d) level, ap (λ z. z * n) upper)

-- The quotient of a part and its whole, if the whole is small.
quotient_near : (n d : ℕ) → 0 < n → n < d → d ≤ 2 ^ 17 → let x = Ieee.div format (whole format n) (whole format d) in IsQuotient format n d x × IsProper x × IsNear 40 (2 ^ 15) n d x
quotient_near n d some under most =
    let upper = whole_exact format n (omega arith) in
    let lower = whole_exact format d (omega arith) in
    let rounded : Ieee.div format (whole format n) (whole format d) ≡ round format false n d = quotient_is format _ _ n d (omega arith) upper lower in (
      record { upper = upper; lower = lower; divided = refl; rounded = rounded },
      rw rounded (between format 17 n d (omega arith) (omega arith) some under most),
      rw rounded (near format 17 n d (omega arith) (omega arith) some under most),
    )

-- The quotient of the two ways is the fraction.
pub fraction_is : (level low high n d : ℕ) → Crosses level low high → low < 2 ^ 16 → high < 2 ^ 16
    → n ≡ to_level level low → d ≡ whole_way low high → IsFraction level low high (Ieee.div format (whole format n) (whole format d))
fraction_is level low high n d crosses small small' numerator denominator =
    let part = part_of_way level low high crosses in
    let found = quotient_near (to_level level low) (whole_way low high) part.0 part.1 (omega arith) in
    rw (numerator, denominator) (record { passes = passes level low high crosses; quotient = found.0; proper = found.1; near = found.2 })
