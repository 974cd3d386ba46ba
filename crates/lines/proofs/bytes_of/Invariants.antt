-- `lines::bytes_of` meets its contract. The invariant: the bytes stored, with those of the digits left, are the line's.
-- Assumes nothing.
use mathlib.Core.Path.{◌≡◌}
use Rattle.std.specs.Iterator.Adapters.{enumerate_source, enumerate_count}
use Rattle.std.specs.Slice.Iter.{chunks_exact_rest, chunks_exact_size}
use Rattle.lines.proofs.Frames.{Pairs}
use Rattle.lines.proofs.bytes_of.Given as goal

abbrev pub invariant-loop-i : goal.invariant-loop-i
invariant-loop-i l =
    let pairs = enumerate_source l.i-iterator in
    (chunks_exact_size pairs ≡ 2) × Pairs l.line (enumerate_count l.i-iterator) (chunks_exact_rest pairs) l.bytes
