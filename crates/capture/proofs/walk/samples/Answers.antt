-- `capture::walk::samples` meets its contract. The invariant is `Going`: what is left makes the whole.
-- Assumes nothing.
use Rattle.std.proofs.Common.{rules}
use Rattle.base.proofs.Picks.{pick_yes, pick_no}
use Rattle.chain.proofs.Stretch.{stretch_fewer}
use Rattle.capture.proofs.Reported.{none_put}
use Rattle.capture.proofs.Samples.{turn_room, turn_again, going_over}
use Rattle.capture.proofs.walk.samples.Goals as goal

pub rise-end-requires-clause-chain_in_bounds : goal.rise-end-requires-clause-chain_in_bounds
rise-end-requires-clause-chain_in_bounds c = search (rules, turn_room, pick_yes)

pub loop-i-smaller-then-part : goal.loop-i-smaller-then-part
loop-i-smaller-then-part c = search (rules, stretch_fewer)

pub loop-i-preserved-then-part : goal.loop-i-preserved-then-part
loop-i-preserved-then-part c = search (rules, turn_again, pick_yes)

pub loop-i-smaller : goal.loop-i-smaller
loop-i-smaller c = search (rules, stretch_fewer)

pub loop-i-preserved : goal.loop-i-preserved
loop-i-preserved c =
    let t = c.to_next_rise-part in
    turn_again c.loop-i.invariant t.result t.ensures _ (pick_no _ _ c.if-part.false) (none_put c.loop-i.end c.loop-i.out)

pub returns : goal.returns
returns c = search (rules, going_over)
