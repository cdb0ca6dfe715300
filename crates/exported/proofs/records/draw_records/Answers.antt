use Rattle.std.proofs.Common.{rules}
use Rattle.tray.specs.Records.{record_holds}
use Rattle.exported.specs.Drawings.{numbers_of}
use Rattle.exported.proofs.Askings.{some_cube}
use Rattle.exported.proofs.Handing.{handed_over}
use Rattle.exported.proofs.records.draw_records.Goals as goal

pub draw_on-told-requires-clause-cubes : goal.draw_on-told-requires-clause-cubes
draw_on-told-requires-clause-cubes c = search (rules, some_cube)

pub returns : goal.returns
returns c =
    handed_over 3 numbers_of c.args.asking.now c.args.readings.now c.args.numbers.now _ c.in_ok-block.field-0 c.draw_on-told.result (record_holds c.new-tray.result).free
    (record_holds c.draw_on-told.new.tray).list c.in_ok-block.ensures (search rules) c.draw_on-told.ensures (search rules)
