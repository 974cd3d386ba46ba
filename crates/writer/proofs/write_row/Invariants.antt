-- `writer::write_row` meets its contract. The invariant: the samples written so far, and those of the words left, are the row's.
-- Assumes nothing.
use Rattle.std.specs.Iterator.Adapters.{enumerate_source, enumerate_count, rev_source}
use Rattle.std.specs.Slice.Iter.{iter_rest}
use Rattle.writer.proofs.Stretches.{Sent}
use Rattle.writer.proofs.write_row.Given as goal

abbrev pub invariant-loop-k : goal.invariant-loop-k
invariant-loop-k l = Sent l.words (enumerate_count l.k-iterator) (iter_rest (rev_source (enumerate_source l.k-iterator))) l.out
