-- `capture::reports::screen_line` meets its contract.
-- Assumes nothing.
use Rattle.std.proofs.Common.{arith}
use Rattle.std.proofs.lemmas.List.{append-nil}
use Rattle.capture.proofs.Reported.{line_put, screen_length}
use Rattle.capture.proofs.reports.screen_line.Goals as goal

pub returns : goal.returns
returns c = grind (arith, append-nil, line_put, screen_length)
