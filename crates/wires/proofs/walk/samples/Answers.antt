-- `wires::walk::samples` meets its contract. The invariant is `Going`: what is left makes the whole.
-- Assumes nothing.
use Rattle.ch450.proofs.Stretches.{stretch_fewer}
use Rattle.wires.proofs.Samples.{going_start, turn_room, turn_again, going_over}
use Rattle.wires.proofs.walk.samples.Goals as goal

pub loop-i-init : goal.loop-i-init
loop-i-init c =
    let a = c.args in
    going_start a.what a.key a.ss.now a.at a.out.now a.panel c.requires

pub transfer-end-requires : goal.transfer-end-requires
transfer-end-requires c =
    let t = c.to_next_transfer-part in
    turn_room c.loop-i.invariant t.result t.ensures

pub loop-i-smaller : goal.loop-i-smaller
loop-i-smaller c =
    let l = c.loop-i in
    let a = c.args in
    let t = c.to_next_transfer-part in
    stretch_fewer a.ss.now l.i l.next t.result t.ensures c.loop-i-test.true

pub loop-i-preserved : goal.loop-i-preserved
loop-i-preserved c =
    let t = c.to_next_transfer-part in
    turn_again c.loop-i.invariant t.result t.ensures c.transfer-end.ensures

pub shape_of-out : goal.shape_of-out
shape_of-out c = c.loop-i.invariant.fills.size

pub returns : goal.returns
returns c = going_over c.loop-i.invariant c.loop-i-test.false
