-- A ratio rounded to the nearest whole number is off by at most a half. Assumes nothing.
use Prim.Native.Nat.{compare, Ordering}
use Rattle.std.proofs.Common.{◌≡◌, ℕ, ◌+◌, ◌*◌, ◌/◌, ◌%◌, ◌<◌, ◌≤◌, T, not, inl, inr, arith, mod-lt, eq-zero-or-pos}
use Rattle.std.proofs.lemmas.Nat.{div-add-mod'}
use lib.Dec.{is_le, compare_is_eq, leb→le, nleb→lt, eqb→eq}
use lib.Ieee.{nearest}
use lib.Ieee.Nearest.{closest}

-- q is off a / b by at most a half, with both sides times 2 * b.
abbrev pub IsWithinHalf : (a b q : ℕ) → Type 0
IsWithinHalf a b q = (2 * (q * b) ≤ 2 * a + b) × (2 * a ≤ 2 * (q * b) + b)

pub closest_within_half : (a b : ℕ) → 0 < b → IsWithinHalf a b (closest a b)
closest_within_half a b some =
    by (compare (a % b * 2) b) (a / b) (a % b) (div-add-mod' a b) (mod-lt a some)
    (leb→le (a % b * 2) b) (nleb→lt (a % b * 2) b) (eqb→eq (a % b * 2) b)
  where
    by : (o : Ordering) (q r : ℕ) → q * b + r ≡ a → r < b
        → (T (is_le o) → r * 2 ≤ b) → (T (not (is_le o)) → b < r * 2) → (T (compare_is_eq o) → r * 2 ≡ b)
        → IsWithinHalf a b (nearest q o)
    by Ordering.lt q r parts rest down up tie = let low = down tt in omega arith
    by Ordering.gt q r parts rest down up tie = let high = up tt in omega arith
    by Ordering.eq q r parts rest down up tie =
        let half = tie tt in
        elim (eq-zero-or-pos (q % 2)) [
          | inl even ↦ rw even (omega arith)
          | inr odd ↦ let one : q % 2 ≡ 1 = omega arith in rw one (omega arith)
        ]
