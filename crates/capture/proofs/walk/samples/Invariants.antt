-- `capture::walk::samples` meets its contract. The invariant is `Going`: what is left makes the whole.
-- Assumes nothing.
use Prim.Native.Nat.{◌-◌}
use lib.ListN.{length}
use Rattle.capture.proofs.Samples.{Going}
use Rattle.capture.proofs.walk.samples.Given as goal

abbrev pub invariant-loop-i : goal.invariant-loop-i
invariant-loop-i l = Going l.what l.n l.ss l.at l.initial.out l.initial.next l.out l.next l.end l.i

abbrev pub decreases-loop-i : goal.decreases-loop-i
decreases-loop-i l = length l.ss - l.i
