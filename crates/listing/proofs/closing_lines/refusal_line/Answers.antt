use Rattle.std.proofs.Common.{◌≡◌, ◌/◌, ◌%◌, refl, ap, ◌∙◌, arith}
use Rattle.listing.specs.ClosingLines.{refusal_text}
use Rattle.tray.specs.Decimal.{digits}
use Rattle.listing.proofs.closing_lines.refusal_line.Goals as goal

pub returns : goal.returns
unfolding refusal_text digits
returns c =
    let told = c.copy_from_slice.ensures.after ∙ c.in_ok-eight_digits.ensures.1 ∙ ap (digits 8) c.into.ensures in
    let tens : c.args.number / 10 % 10 ≡ c.args.number / 10 = omega arith in
    (omega arith, omega (arith, c.in_ok-eight_digits.ensures.0, c.into.ensures), rw (told, tens) refl)
