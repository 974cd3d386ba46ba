-- `capture::walk::wrong_line` meets its contract: there is room for the whole refusal.
-- Assumes nothing.
use Rattle.std.proofs.Common.{arith}
use Rattle.lines.proofs.Puts.{put_whole}
use Rattle.capture.proofs.Reported.{refusal_length}
use Rattle.capture.proofs.walk.wrong_line.Goals as goal

pub returns : goal.returns
returns c = grind (arith, put_whole, refusal_length)
