-- `tallies::printed::chip_lines` meets its contract.
-- Assumes nothing.
use Rattle.std.proofs.Common.{◌≡◌, arith, rules, get_or, take, length}
use Rattle.base.proofs.Lists.{length_mapped}
use Rattle.chain.specs.Chain.{most}
use Rattle.tallies.specs.Counts.{no_counts}
use Rattle.tallies.specs.Printed.{chip_line}
use Rattle.lines.proofs.Each.{left_room, left_more, left_over, front_at, front_few, front_many}
use Rattle.tallies.proofs.PrintedLines.{chip_length}
use Rattle.tallies.proofs.printed.chip_lines.Goals as goal

pub returns-then-k-n : goal.returns-then-k-n
returns-then-k-n c =
    let a = c.args in
    left_over chip_line (take a.n a.chips) a.at a.out.now c.requires c.loop-k.invariant (front_few a.n a.chips c.loop-k.k c.if-k-n.true)

pub chip_line-end-requires : goal.chip_line-end-requires
chip_line-end-requires c =
    let a = c.args in
    let l = c.loop-k in
    let size : length a.chips ≡ most = search (rules, length_mapped) in
    let here = front_at a.n a.chips l.k no_counts c.if-k-n.false (omega (arith, size, c.loop-k-test.true)) in
    let room = left_room chip_line (take a.n a.chips) a.at a.out.now c.requires l.invariant no_counts _ here.0 here.1 in
    omega (arith, room, chip_length l.k (get_or a.chips l.k no_counts))

pub loop-k-preserved : goal.loop-k-preserved
loop-k-preserved c =
    let a = c.args in
    let size : length a.chips ≡ most = search (rules, length_mapped) in
    let here = front_at a.n a.chips c.loop-k.k _ c.if-k-n.false (omega (arith, size, c.loop-k-test.true)) in
    left_more chip_line (take a.n a.chips) a.at a.out.now c.requires c.loop-k.invariant _ _ here.0 here.1 c.chip_line-end.ensures

pub returns : goal.returns
returns c =
    let a = c.args in
    let size : length a.chips ≡ most = search (rules, length_mapped) in
    left_over chip_line (take a.n a.chips) a.at a.out.now c.requires c.loop-k.invariant (front_many a.n a.chips c.loop-k.k (omega (arith, size, c.loop-k-test.false)))
