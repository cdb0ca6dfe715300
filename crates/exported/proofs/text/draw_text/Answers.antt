use Rattle.std.proofs.Common.{rules}
use Rattle.tray.specs.Buffers.{text_holds}
use Rattle.tray.specs.Texts.{text_of}
use Rattle.exported.proofs.Askings.{some_cube}
use Rattle.exported.proofs.Handing.{handed_over}
use Rattle.exported.proofs.text.draw_text.Goals as goal

pub draw_on-told-requires-clause-cubes : goal.draw_on-told-requires-clause-cubes
draw_on-told-requires-clause-cubes c = search (rules, some_cube)

pub returns : goal.returns
returns c =
    handed_over 27 text_of c.args.asking.now c.args.readings.now c.args.text.now _ c.in_ok-block.field-0 c.draw_on-told.result (text_holds c.new-tray.result).free
    (text_holds c.draw_on-told.new.tray).list c.in_ok-block.ensures (search rules) c.draw_on-told.ensures (search rules)
