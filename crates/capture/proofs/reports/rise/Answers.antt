-- `capture::reports::rise` meets its contract.
-- Assumes nothing.
use Rattle.std.proofs.Common.{rules}
use Rattle.capture.proofs.Reported.{left_room, left_more, left_over}
use Rattle.capture.proofs.reports.rise.Goals as goal

pub rise_line-end-requires : goal.rise_line-end-requires
rise_line-end-requires c = search (rules, left_room)

pub loop-k-preserved : goal.loop-k-preserved
loop-k-preserved c = search (rules, left_more)

pub returns : goal.returns
returns c = search (rules, left_over)
