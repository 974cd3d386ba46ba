-- `ch450::writer::write_commands` meets its contract. The invariant: the samples of the commands left, put where the loop stands, make
-- the whole.
-- Assumes nothing.
use Rattle.std.proofs.Common.{◌*◌, drop}
use Rattle.base.proofs.Lent.{Fills}
use Rattle.ch450.specs.Written.{written}
use Rattle.ch450.proofs.writer.write_commands.Given as goal

abbrev pub invariant-loop-k : goal.invariant-loop-k
invariant-loop-k l = Fills 0 (written l.words) l.initial.out (40 * l.k) (written (drop l.k l.words)) l.out
