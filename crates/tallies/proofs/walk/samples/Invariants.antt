-- `tallies::walk::samples` meets its contract. The invariant is `Sampling`: what is left makes the whole.
-- Assumes nothing.
use Prim.Native.Nat.{◌-◌}
use lib.ListN.{length}
use Rattle.tallies.proofs.Stretches.{Sampling}
use Rattle.tallies.proofs.walk.samples.Given as goal

abbrev pub invariant-loop-i : goal.invariant-loop-i
invariant-loop-i l = Sampling l.n l.ss l.initial.next l.initial.tally l.next l.tally l.i

abbrev pub decreases-loop-i : goal.decreases-loop-i
decreases-loop-i l = length l.ss - l.i
