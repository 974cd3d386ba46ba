-- `capture::reports::scan` meets its contract.
-- Assumes nothing.
use Rattle.std.proofs.Common.{arith}
use Rattle.capture.proofs.Reported.{none_put, screen_length, same_bytes-is}
use Rattle.capture.proofs.reports.scan.Goals as goal

pub returns-then-eq : goal.returns-then-eq
returns-then-eq c = grind (arith, same_bytes-is, none_put)

pub screen_line-requires : goal.screen_line-requires
screen_line-requires c = grind (arith, same_bytes-is, screen_length)

pub returns-else-eq : goal.returns-else-eq
returns-else-eq c = grind (arith, same_bytes-is)
