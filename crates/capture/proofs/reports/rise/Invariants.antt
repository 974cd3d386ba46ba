-- `capture::reports::rise` meets its contract. The invariant: the lines of the chips left, put where the loop stands, make the
-- whole.
-- Assumes nothing.
use Rattle.base.proofs.Lent.{Fills}
use Rattle.capture.proofs.Reported.{rises_left}
use Rattle.capture.proofs.reports.rise.Given as goal

abbrev pub invariant-loop-k : goal.invariant-loop-k
invariant-loop-k l = Fills l.at (rises_left l.what l.chip-items 0) l.initial.out l.end (rises_left l.what l.chip-items l.k) l.out
