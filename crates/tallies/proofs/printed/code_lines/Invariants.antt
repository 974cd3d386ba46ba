-- `tallies::printed::code_lines` meets its contract. The invariant: the lines of the codes left, put where the loop stands, make the
-- whole.
-- Assumes nothing.
use Rattle.base.proofs.Lent.{Fills}
use Rattle.tallies.specs.Printed.{code_line}
use Rattle.lines.proofs.Each.{lines_left}
use Rattle.tallies.proofs.printed.code_lines.Given as goal

abbrev pub invariant-loop-code : goal.invariant-loop-code
invariant-loop-code l = Fills l.at (lines_left code_line l.count-items 0) l.initial.out l.end (lines_left code_line l.count-items l.code) l.out
