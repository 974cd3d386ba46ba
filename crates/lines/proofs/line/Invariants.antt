-- `lines::line` meets its contract. The invariant: what is left to write, put where the loop stands, makes the line.
-- Assumes nothing.
use Rattle.lines.proofs.Puts.{Writes}
use Rattle.lines.proofs.line.Given as goal

abbrev pub invariant-loop-byte : goal.invariant-loop-byte
invariant-loop-byte l = Writes l.bytes l.initial.out l.at l.out l.end l.byte-index
