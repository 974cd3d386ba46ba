-- `tallies::walk::samples` meets its contract. The invariant is `Sampling`: what is left makes the whole.
-- Assumes nothing.
use Rattle.base.proofs.Lists.{length_mapped}
use Rattle.chain.proofs.Stretch.{stretch_fewer}
use Rattle.tallies.proofs.Stretches.{sampling_start, turn_room, turn_rose, turn_still, sampling_over}
use borrow.Author.Rules.{rules}
use Rattle.tallies.proofs.walk.samples.Goals as goal

pub loop-i-init : goal.loop-i-init
loop-i-init c =
    let a = c.args in
    let p = c.requires in
    sampling_start a.n a.ss.now a.state.chain a.state.tally p.n_le_most (search (rules, length_mapped)) p.tally_value

pub rise-tally-requires : goal.rise-tally-requires
rise-tally-requires c =
    let t = c.to_next_rise-part in
    record { n_le_most = c.requires.n_le_most; tally_value = turn_room c.loop-i.invariant t.result t.ensures c.loop-i-test.true }

pub loop-i-smaller-then-part : goal.loop-i-smaller-then-part
loop-i-smaller-then-part c =
    let l = c.loop-i in
    let a = c.args in
    let t = c.to_next_rise-part in
    stretch_fewer a.n a.ss.now l.i l.next t.result t.ensures c.loop-i-test.true

pub loop-i-preserved-then-part : goal.loop-i-preserved-then-part
loop-i-preserved-then-part c =
    let l = c.loop-i in
    let t = c.to_next_rise-part in
    turn_rose l.invariant t.result t.ensures c.loop-i-test.true c.if-part.true c.rise-tally.result c.rise-tally.ensures

pub loop-i-smaller : goal.loop-i-smaller
loop-i-smaller c =
    let l = c.loop-i in
    let a = c.args in
    let t = c.to_next_rise-part in
    stretch_fewer a.n a.ss.now l.i l.next t.result t.ensures c.loop-i-test.true

pub loop-i-preserved : goal.loop-i-preserved
loop-i-preserved c =
    let t = c.to_next_rise-part in
    turn_still c.loop-i.invariant t.result t.ensures c.loop-i-test.true c.if-part.false

pub returns : goal.returns
returns c = sampling_over c.loop-i.invariant c.loop-i-test.false
