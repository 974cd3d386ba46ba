-- `chain::finder::looked` meets its contract. The invariant: the next LOAD rise of the rest is that of the whole.
-- Assumes nothing.
use Rattle.std.proofs.Common.{◌≡◌, ◌≤◌, ◌-◌, length, drop}
use Rattle.chain.specs.Finder.{rise_from}
use Rattle.chain.proofs.finder.looked.Given as goal

abbrev pub invariant-loop-s : goal.invariant-loop-s
invariant-loop-s l = (l.passed ≤ length l.samples) × (rise_from l.passed l.was (drop l.passed l.samples) ≡ rise_from 0 l.levels l.samples)

abbrev pub decreases-loop-s : goal.decreases-loop-s
decreases-loop-s l = length l.samples - l.passed
