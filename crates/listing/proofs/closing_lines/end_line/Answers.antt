use Rattle.std.proofs.Common.{refl, ap, ◌∙◌, arith}
use Rattle.listing.specs.ClosingLines.{end_text}
use Rattle.tray.specs.Decimal.{digits}
use Rattle.listing.proofs.closing_lines.end_line.Goals as goal

pub returns : goal.returns
unfolding end_text digits
returns c =
    let cubes = c.copy_from_slice.ensures.after ∙ c.in_ok-eight_digits.ensures.1 ∙ ap (digits 8) c.into.ensures in
    let triangles = c.copy_from_slice-2.ensures.after ∙ c.in_ok-eight_digits-2.ensures.1 ∙ ap (digits 8) c.into-2.ensures in
    (omega (arith, c.in_ok-eight_digits.ensures.0, c.into.ensures), omega (arith, c.in_ok-eight_digits-2.ensures.0, c.into-2.ensures), rw (cubes, triangles) refl)
