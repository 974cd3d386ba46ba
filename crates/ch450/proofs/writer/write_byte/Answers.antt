-- `ch450::writer::write_byte` meets its contract. The invariant: the samples of the bits left, and of the acknowledge, put where the
-- loop stands, are the byte's.
-- Assumes nothing.
use Rattle.std.proofs.Common.{arith}
use Rattle.base.proofs.Lent.{fills_start}
use Rattle.ch450.proofs.Filling.{byte_left, byte_more, byte_over}
use Rattle.ch450.proofs.writer.write_byte.Goals as goal

pub loop-at-init : goal.loop-at-init
loop-at-init c = fills_start 0 (byte_left c.args.byte 0) c.args.out.now

pub loop-at-preserved : goal.loop-at-preserved
loop-at-preserved c =
    let l = c.loop-at in
    byte_more c.args.byte l.at c.args.out.now l.out c.requires l.invariant c.loop-at-test.true c.field-b.result c.field-b.ensures

pub returns : goal.returns
returns c =
    let l = c.loop-at in
    byte_over c.args.byte l.at c.args.out.now l.out c.requires l.invariant (omega arith)
