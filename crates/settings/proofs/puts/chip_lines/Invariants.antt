-- `settings::puts::chip_lines` meets its contract. The invariant: the lines of the chips left, put where the loop stands, make the whole.
-- Assumes nothing.
use Rattle.base.proofs.Lent.{Fills}
use Rattle.lines.proofs.Each.{lines_left}
use Rattle.settings.specs.Settings.{chip_line}
use Rattle.settings.proofs.puts.chip_lines.Given as goal

abbrev pub invariant-loop-k : goal.invariant-loop-k
invariant-loop-k l = Fills l.at (lines_left chip_line l.c-items 0) l.initial.out l.end (lines_left chip_line l.c-items l.k) l.out
