-- `reads::samples` meets its contract.
-- Assumes nothing.
use Rattle.std.proofs.Common.{sym, length-take-le, rules}
use Rattle.reads.proofs.Firsts.{first_few, none_first}
use Rattle.reads.proofs.samples.Goals as goal

pub returns-then-not-has_room : goal.returns-then-not-has_room
returns-then-not-has_room c =
    let a = c.args in
    none_first a.what a.n a.offset a.bytes.now a.chain a.reader a.at a.out.now c.run_length-count.ensures (search rules)

pub slice_bounds-played-end : goal.slice_bounds-played-end
slice_bounds-played-end c =
    let a = c.args in
    sym (length-take-le c.run_length-count.result a.bytes.now (first_few a.what a.n a.offset a.bytes.now a.chain a.reader a.at a.out.now c.run_length-count.ensures))
