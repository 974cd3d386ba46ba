-- `streams::samples::run` meets its contract: before one has a recorded DOUT as they stand, and with the looks from then on.
-- Assumes nothing.
use Rattle.std.proofs.Common.{sym, arith, length-take-le}
use Rattle.streams.proofs.Runs.{plain_fits, plain_few, plain_all, plain_played, rest_run, run_rest}
use Rattle.streams.proofs.samples.run.Goals as goal

pub slice_bounds-played-end : goal.slice_bounds-played-end
slice_bounds-played-end c = sym (length-take-le c.plain_length-count.result _ (plain_fits _ c.plain_length-count.ensures))

pub played-requires-clause-all_below : goal.played-requires-clause-all_below
played-requires-clause-all_below c = plain_all _ c.plain_length-count.ensures

pub played-requires-clause-levels_in_bounds : goal.played-requires-clause-levels_in_bounds
played-requires-clause-levels_in_bounds c =
    let a = c.args in
    let p = c.requires in
    let r = rest_run a.bytes.now a.from a.at a.out.now p.bound p.bytes_in_bounds in
    omega (arith, plain_few _ c.plain_length-count.ensures, r.0, r.1)

pub returns-then-count-gt0 : goal.returns-then-count-gt0
returns-then-count-gt0 c =
    let a = c.args in
    run_rest a.bytes.now a.from (plain_played _ c.plain_length-count.ensures c.if-count-gt0.true c.played.ensures)
