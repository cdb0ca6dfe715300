use Rattle.std.specs.Slice.Iter.{chunks_exact_rest, chunks_exact_size}
use Rattle.tray.specs.Texts.{list_of}
use Rattle.tray.proofs.TextPuts.{Begun}
use Rattle.tray.proofs.text.put_lines.Given as goal

abbrev pub invariant-loop-line : goal.invariant-loop-line
invariant-loop-line g l =
    Begun g.T.Tray.holds g.T.Tray.keeps (list_of l.text) l.initial.into (chunks_exact_rest l.line-iterator) (chunks_exact_size l.line-iterator) l.into
