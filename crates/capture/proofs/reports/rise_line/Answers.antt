-- `capture::reports::rise_line` meets its contract.
-- Assumes nothing.
use Rattle.std.proofs.Common.{arith}
use Rattle.base.proofs.Cuts.{cut_lt}
use Rattle.capture.proofs.Reported.{screen_length}
use Rattle.capture.proofs.reports.rise_line.Goals as goal

pub overflow_cast-bytes : goal.overflow_cast-bytes
overflow_cast-bytes c = grind (arith, cut_lt c.args.chip.line.register 8 8)

pub overflow_cast-bytes-in-Words : goal.overflow_cast-bytes-in-Words
overflow_cast-bytes-in-Words c = grind (arith, cut_lt c.args.chip.line.register 0 8)

pub screen_line-requires : goal.screen_line-requires
screen_line-requires c = grind (arith, screen_length)
