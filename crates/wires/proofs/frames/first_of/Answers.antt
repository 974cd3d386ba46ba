-- `wires::frames::first_of` meets its contract: nine bytes, 40 01, a key's code and six digits, are what begins a text.
-- Assumes nothing.
use Rattle.std.proofs.Common.{arith}
use Rattle.std.proofs.lemmas.List.{take_all}
use Rattle.wires.specs.Frames.{first_of}
use Rattle.wires.proofs.Firsts.{frame_says}
use Rattle.wires.proofs.frames.first_of.Goals as goal

pub returns-in-64 : goal.returns-in-64
unfolding first_of
returns-in-64 c =
    let e = c.line_end-end in
    let f = c.frame_of-frame in
    let says = frame_says c.args.text.now e.result e.ensures c.if-end-text.false f.result f.ensures in
    grind (arith, says, take_all)
