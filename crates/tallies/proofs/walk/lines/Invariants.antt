-- `tallies::walk::lines` meets its contract. The invariant is `Walking`: what is left makes the whole.
-- Assumes nothing.
use Prim.Native.Nat.{◌-◌}
use lib.ListN.{length, drop}
use Rattle.lines.specs.Lines.{lines_of}
use Rattle.tallies.specs.Counted.{counted_lines}
use Rattle.tallies.proofs.Walking.{Walking}
use Rattle.tallies.proofs.walk.lines.Given as goal

abbrev pub invariant-loop-place : goal.invariant-loop-place
invariant-loop-place l =
    Walking l.n l.text (counted_lines l.n 2 l.initial.next (lines_of (drop l.from l.text))) l.next l.number l.place

abbrev pub decreases-loop-place : goal.decreases-loop-place
decreases-loop-place l = length l.text - l.place
