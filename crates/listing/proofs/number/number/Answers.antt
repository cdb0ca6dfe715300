use Rattle.std.proofs.Common.{◌≡◌, ℕ, ◌<◌, length, subst, arith}
use Rattle.std.proofs.lemmas.Bool.Decides.{nat_tests}
use Rattle.std.specs.Char.{IsDigitOf}
use Rattle.listing.proofs.Numbers.{Front, front_none, front_more, front_small, front_all, digit_at}
use Rattle.listing.specs.Numerals.{Writes}
use Rattle.listing.proofs.number.number.Goals as goal

pub loop-byte-init : goal.loop-byte-init
loop-byte-init c = front_none c.args.text.now

pub overflow_mul-value : goal.overflow_mul-value
overflow_mul-value c =
    let small = front_small c.args.text.now c.loop-byte.byte-index c.loop-byte.value (omega arith) (omega arith) c.loop-byte.invariant in
    omega arith

pub overflow_add-value : goal.overflow_add-value
overflow_add-value c =
    let small = front_small c.args.text.now c.loop-byte.byte-index c.loop-byte.value (omega arith) (omega arith) c.loop-byte.invariant in
    omega (arith, c.in_ok-value.ensures.value)

pub loop-byte-preserved : goal.loop-byte-preserved
loop-byte-preserved c =
    let told = c.in_ok-value.ensures in
    let small : c.in_ok-value.field-0 < 10 = omega (arith, told.value) in
    front_more c.args.text.now c.loop-byte.byte-index c.loop-byte.value c.in_ok-value.field-0 (omega arith) small (subst (λ b. IsDigitOf b c.in_ok-value.field-0) c.from.ensures told.cases) c.loop-byte.invariant

pub returns-in_err-value : goal.returns-in_err-value
returns-in_err-value c =
    let none : (n : ℕ) → Writes c.args.text.now n → ⊥ =
    λ n writes.
    let digit = digit_at c.args.text.now c.loop-byte.byte-index (omega arith) writes.digits in
    omega (arith, digit, c.from.ensures, c.in_err-value.ensures.cases) in
    rw c.from_residual.ensures none

pub returns : goal.returns
returns c =
    let end : c.loop-byte.byte-index ≡ length c.args.text.now = omega arith in
    let whole = subst (λ i. Front c.args.text.now i c.loop-byte.value) end c.loop-byte.invariant in
    rw c.ok.ensures.value (front_all c.args.text.now c.loop-byte.value c.try_from.result (grind (arith, nat_tests, c.if-is_empty.ensures)) (omega arith) whole c.try_from.ensures)
