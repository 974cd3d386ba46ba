-- `tallies::printed::chip_lines` meets its contract. The invariant: the lines of the chips left, put where the loop stands, make the
-- whole.
-- Assumes nothing.
use Rattle.std.proofs.Common.{take}
use Rattle.base.proofs.Lent.{Fills}
use Rattle.tallies.specs.Printed.{chip_line}
use Rattle.lines.proofs.Each.{lines_left}
use Rattle.tallies.proofs.printed.chip_lines.Given as goal

abbrev pub invariant-loop-k : goal.invariant-loop-k
invariant-loop-k l =
    Fills l.at (lines_left chip_line (take l.n l.counts-items) 0) l.initial.out l.end (lines_left chip_line (take l.n l.counts-items) l.k) l.out
