use Rattle.std.proofs.Common.{◌≡◌, ℕ, ◌+◌, ◌^◌, ◌<◌, length, get_or, sym, refl, ap, ◌∙◌, subst, arith}
use Rattle.std.proofs.lemmas.List.{take_all}
use Rattle.std.specs.Char.{IsDigitOf}
use Rattle.tray.specs.Decimal.{digits, value_after}
use Rattle.tray.proofs.Decimals.{length_digits, value_digits, digit_at, below_more, read_more}
use Rattle.tray.proofs.digits.read_digits.Goals as goal

pub returns-then-bytes-ne8-clause-told : goal.returns-then-bytes-ne8-clause-told
returns-then-bytes-ne8-clause-told c = λ n small e. c.if-bytes-ne8.true (ap length e ∙ length_digits 8 n)

pub loop-byte-init : goal.loop-byte-init
unfolding digits
loop-byte-init c = (omega arith, refl)

pub returns-in_err-number-clause-told : goal.returns-in_err-number-clause-told
returns-in_err-number-clause-told c =
    let bs = c.args.bytes.now in
    let i = c.loop-byte.byte-index in
    let within : i < 8 = omega arith in
    let none : (n : ℕ) → n < 100000000 → bs ≡ digits 8 n → ⊥ =
    λ n small e.
    let same = ap (λ l. get_or l i 0) e in
    omega (arith, digit_at 8 n i within, same, c.from.ensures, c.in_err-number.ensures.cases) in
    rw c.from_residual.ensures none

-- A decimal digit of a character is what the character is past 48.
digit_is : (b d : ℕ) → d < 10 → IsDigitOf b d → b ≡ 48 + d
digit_is b d small is = grind arith

pub loop-byte-preserved : goal.loop-byte-preserved
loop-byte-preserved c =
    let told = c.in_ok-number.ensures in
    let small : c.in_ok-number.field-0 < 10 = omega (arith, told.value) in
    let digit = sym c.from.ensures ∙ digit_is c.from.result c.in_ok-number.field-0 small told.cases in (
      below_more c.loop-byte.byte-index c.loop-byte.number _ c.loop-byte.invariant.0 small,
      read_more c.args.bytes.now c.loop-byte.byte-index c.loop-byte.number _ c.loop-byte-test.true small digit c.loop-byte.invariant.1,
    )

pub returns-clause-value : goal.returns-clause-value
returns-clause-value c =
    let end : c.loop-byte.byte-index ≡ 8 = omega arith in
    let small = subst (λ k. c.loop-byte.number < 10 ^ k) end c.loop-byte.invariant.0 in
    let written = sym (take_all _ c.args.bytes.now c.loop-byte-test.false) ∙ c.loop-byte.invariant.1 ∙ ap (λ k. digits k c.loop-byte.number) end in
    ap (value_after 0) written ∙ value_digits 8 c.loop-byte.number small
