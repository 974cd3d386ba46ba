-- `chain::blocks::counted` meets its contract. The invariant: the rises so far and those of the rest are all.
-- Assumes nothing.
use Rattle.std.proofs.Common.{◌≡◌, ◌≤◌, ◌+◌, length, drop}
use Rattle.chain.specs.Blocks.{rises_from}
use Rattle.chain.proofs.blocks.counted.Given as goal

abbrev pub invariant-loop-s : goal.invariant-loop-s
invariant-loop-s l =
    (l.count ≤ l.s-index) × (l.count + length (rises_from l.s-index l.was (drop l.s-index l.samples)) ≡ length (rises_from 0 l.levels l.samples))
