-- `lines::line` meets its contract. The invariant: what is left to write, put where the loop stands, makes the line.
-- Assumes nothing.
use native.Mathlib.Omega.{arith}
use lib.ListN.{length-set}
use Rattle.lines.proofs.Puts.{line_for_length, writes_more, writes_over}
use Rattle.lines.proofs.line.Goals as goal

pub bounds-out-end-in-loop-byte : goal.bounds-out-end-in-loop-byte
bounds-out-end-in-loop-byte c = simp length-set (omega (arith, line_for_length c.args.bytes.now))

pub loop-byte-preserved : goal.loop-byte-preserved
loop-byte-preserved c =
    let l = c.loop-byte in
    writes_more c.args.bytes.now c.args.out.now c.args.at c.requires l.out l.end l.byte-index _ _ l.invariant c.loop-byte-test.true
    c.hex_char.ensures
    c.hex_char-in-loop-byte.ensures

pub returns : goal.returns
returns c =
    let l = c.loop-byte in
    writes_over c.args.bytes.now c.args.out.now c.args.at c.requires l.out l.end l.byte-index l.invariant c.loop-byte-test.false
