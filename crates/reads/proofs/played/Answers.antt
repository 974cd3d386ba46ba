-- `reads::played` meets its contract.
-- Assumes nothing.
use Rattle.std.proofs.Common.{◌^◌, ◌<◌, length, refl, ap, arith, rules}
use Rattle.reads.proofs.Sampling.{rest_all, playing_start, playing_room, playing_some}
use Rattle.reads.proofs.played.Goals as goal

pub loop-ran-init : goal.loop-ran-init
loop-ran-init c =
    let a = c.args in
    playing_start a.what a.n a.offset a.bytes.now a.chain a.reader a.at a.out.now

pub some-more-requires-clause-bytes_in_bounds : goal.some-more-requires-clause-bytes_in_bounds
some-more-requires-clause-bytes_in_bounds c =
    let a = c.args in
    let p = c.requires in
    let l = c.loop-ran in
    omega (arith, playing_room a.what a.n p.n_value p.bytes_in_bounds l.invariant, ap length (rest_all l.ran.count a.bytes.now))

pub loop-ran-preserved : goal.loop-ran-preserved
loop-ran-preserved c =
    let a = c.args in
    let p = c.requires in
    let low : a.offset < 2 ^ 64 = search rules in
    playing_some a.what a.n p.n_value p.bytes_in_bounds c.loop-ran.invariant low refl c.some-more.ensures
