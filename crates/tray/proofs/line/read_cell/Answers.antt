use Rattle.std.proofs.Common.{[], ◌∷◌, ◌++◌, None, Some, sym, ap, ◌∙◌}
use Rattle.std.proofs.lemmas.Bool.Decides.{Decides-eqb}
use Rattle.std.proofs.lemmas.Slice.Eq.{strip_suffix_is}
use Rattle.tray.specs.Decimal.{digits}
use Rattle.tray.specs.Lines.{cell, mark_byte}
use Rattle.tray.proofs.LineReads.{cell_read}
use Rattle.tray.proofs.line.read_cell.Goals as goal

pub returns-in_err-strip_suffix : goal.returns-in_err-strip_suffix
unfolding cell
returns-in_err-strip_suffix c =
    let other = strip_suffix_is Decides-eqb c.args.bytes.now (c.into.result ∷ []) None c.in_err-strip_suffix.ensures.cases in
    rw c.from_residual.ensures (λ n small e. other (digits 8 n) (e ∙ ap (λ b. digits 8 n ++ (b ∷ [])) (sym c.into.ensures)))

pub returns : goal.returns
returns c =
    let ds = c.in_ok-strip_suffix.field-0 in
    let cut = strip_suffix_is Decides-eqb c.args.bytes.now (c.into.result ∷ []) (Some ds) c.in_ok-strip_suffix.ensures.cases in
    cell_read c.read_digits.result c.args.bytes.now ds.now (mark_byte c.args.mark) (cut ∙ ap (λ b. ds.now ++ (b ∷ [])) c.into.ensures) c.read_digits.ensures.told
