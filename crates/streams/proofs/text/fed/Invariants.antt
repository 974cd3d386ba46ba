-- `streams::text::fed` meets its contract. The invariant is `Lines`: what is left of the block steps to what the whole steps to.
-- Assumes nothing.
use Rattle.std.proofs.Common.{◌-◌, length}
use Rattle.streams.proofs.TextLoop.{Lines}
use Rattle.streams.proofs.text.fed.Given as goal

abbrev pub invariant-loop-i : goal.invariant-loop-i
invariant-loop-i l = Lines l.what l.initial.next l.bytes l.initial.out l.next l.at l.i l.out

abbrev pub decreases-loop-i : goal.decreases-loop-i
decreases-loop-i l = length l.bytes - l.i
