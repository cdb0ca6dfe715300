use Rattle.std.proofs.Common.{◌≡◌, Some, arith}
use Rattle.std.proofs.lemmas.Grind.{common_steps}
use Rattle.std.proofs.lemmas.Result.{err_from_is_err_and}
use Rattle.listing.specs.Cutting.{cut, unread}
use Rattle.listing.specs.Lines.{header_of_line}
use Rattle.listing.proofs.InputLaws.{input_rows, rows_untold}
use Rattle.listing.proofs.input.read_lines.Goals as goal

pub returns-in_err-readings : goal.returns-in_err-readings
returns-in_err-readings c =
    let p = err_from_is_err_and c.from_residual-in_err-readings.result c.from_residual-in_err-readings.ensures.1 in
    let line = c.in_ok-line.line.now in
    let found : cut 10 c.args.bytes.now ≡ Some (line, unread c.ended.new.self) = grind (arith, common_steps) in
    let read : header_of_line line ≡ Some c.in_ok-header.header = grind (arith, common_steps) in
    rw (p.1, p.2) (rows_untold c.in_ok-header.header _ _ _ (input_rows c.args.bytes.now line _ c.in_ok-header.header found read) c.in_err-readings.ensures)
