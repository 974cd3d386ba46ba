-- `ch450::writer::write_byte` meets its contract. The invariant: the samples of the bits left, and of the acknowledge, put where the
-- loop stands, are the byte's.
-- Assumes nothing.
use Rattle.std.proofs.Common.{◌*◌}
use Rattle.base.proofs.Lent.{Fills}
use Rattle.ch450.proofs.Filling.{byte_left}
use Rattle.ch450.proofs.writer.write_byte.Given as goal

abbrev pub invariant-loop-at : goal.invariant-loop-at
invariant-loop-at l = Fills 0 (byte_left l.byte 0) l.initial.out (l.at * 2) (byte_left l.byte l.at) l.out
