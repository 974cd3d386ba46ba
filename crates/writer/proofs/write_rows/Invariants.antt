-- `writer::write_rows` meets its contract. The invariant: the rows written so far, and the samples of the rows left, are all the
-- samples, and the bytes past them are as they were.
-- Assumes nothing.
use mathlib.Core.Path.{◌≡◌}
use Rattle.std.specs.Iterator.Adapters.{enumerate_source, enumerate_count}
use Rattle.std.specs.Slice.Iter.{chunks_exact_rest, chunks_exact_size}
use Rattle.writer.proofs.Stretches.{Laid}
use Rattle.writer.proofs.write_rows.Given as goal

abbrev pub invariant-loop-r : goal.invariant-loop-r
invariant-loop-r l =
    let rows = enumerate_source l.r-iterator in
    (chunks_exact_size rows ≡ l.n) × Laid l.n l.words l.initial.out (enumerate_count l.r-iterator) (chunks_exact_rest rows) l.out
