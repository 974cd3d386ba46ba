-- `reads::played` meets its contract.
-- Assumes nothing.
use Rattle.std.proofs.Common.{◌-◌, length}
use Rattle.reads.proofs.Sampling.{Playing}
use Rattle.reads.proofs.played.Given as goal

abbrev pub invariant-loop-ran : goal.invariant-loop-ran
invariant-loop-ran l = Playing l.what l.n l.offset l.bytes l.initial.ran.chain l.initial.ran.reader l.initial.ran.at l.initial.out l.ran l.out

abbrev pub decreases-loop-ran : goal.decreases-loop-ran
decreases-loop-ran l = length l.bytes - l.ran.count
