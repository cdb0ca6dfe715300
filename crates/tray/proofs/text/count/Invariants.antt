use Rattle.std.specs.Iterator.Adapters.{enumerate_count, enumerate_source}
use Rattle.std.specs.Slice.Iter.{chunks_rest, chunks_size}
use Rattle.tray.proofs.TextLoops.{Front}
use Rattle.tray.proofs.text.count.Given as goal

abbrev pub invariant-loop-n : goal.invariant-loop-n
invariant-loop-n l =
    Front l.text (chunks_rest (enumerate_source l.n-iterator)) (chunks_size (enumerate_source l.n-iterator)) (enumerate_count l.n-iterator)
