use Rattle.std.proofs.Common.{◌++◌, ap, ◌∙◌}
use Rattle.tray.specs.Buffers.{text_holds}
use Rattle.listing.proofs.OneDraw.{drawn_of, filled}
use Rattle.listing.proofs.drawing_out.fill.Goals as goal

pub returns-clause-filled : goal.returns-clause-filled
returns-clause-filled g c =
    let m = g.S.Scan.means c.args.scan.now in
    let d = c.args.drawing.now in
    let h = text_holds c.args.tray.now in
    let h' = text_holds c.draw.new.tray in
    let p = c.unwrap-progress.result in
    let out = c.args.output.now.items in
    let drawn = drawn_of m 4294967295 d c.draw.new.self h h' c.draw.result p c.unwrap-progress.ensures c.draw.ensures.draws in
    filled m d c.draw.new.self h h' p drawn c.requires.ready out c.extend_from_slice.new.self.items
    (c.in_ok-extend_from_slice.ensures.items ∙ ap (λ l. out ++ l) c.text.ensures)
