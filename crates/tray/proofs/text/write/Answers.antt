use Rattle.tray.proofs.TextLoops.{write_more}
use Rattle.tray.proofs.text.write.Goals as goal

pub loop-n-preserved : goal.loop-n-preserved
loop-n-preserved c =
    write_more c.write_line_at.result c.args.list.now c.loop-n.bytes _ c.args.bytes.now c.loop-n.n c.index-list-n.result
    c.loop-n-test.true c.index-list-n.is c.if-triangles-free.false c.loop-n.auto.bytes c.loop-n.invariant c.write_line_at.ensures
