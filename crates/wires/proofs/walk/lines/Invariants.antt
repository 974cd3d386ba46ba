-- `wires::walk::lines` meets its contract. The invariant is `Walks`: what is left of the text writes what is left of the output,
-- and ends as the whole does.
-- Assumes nothing.
use Prim.Native.Nat.{◌-◌}
use lib.ListN.{length, drop}
use Rattle.capture.proofs.Walks.{Walks}
use Rattle.lines.specs.Lines.{lines_of}
use Rattle.wires.specs.Replay.{lines_out, lines_end}
use Rattle.wires.proofs.Walked.{takes_line}
use Rattle.wires.proofs.walk.lines.Given as goal

abbrev pub invariant-loop-place : goal.invariant-loop-place
invariant-loop-place l =
    Walks (takes_line l.what l.key) l.text (lines_out l.what l.key 2 l.initial.next (lines_of (drop l.from l.text))) (lines_end 2 (lines_of (drop l.from l.text))) l.initial.out l.out l.next l.number l.at l.place

abbrev pub decreases-loop-place : goal.decreases-loop-place
decreases-loop-place l = length l.text - l.place
