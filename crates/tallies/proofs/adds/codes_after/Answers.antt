-- `tallies::adds::codes_after` meets its contract: a code recorded, over an unread one or not, is one more for it.
-- Assumes nothing.
use Rattle.std.proofs.Common.{arith}
use Rattle.tallies.proofs.Rises.{codes_none, codes_one, codes_over, codes_released}
use Rattle.tallies.proofs.adds.codes_after.Goals as goal

pub returns-in-Nothing : goal.returns-in-Nothing
returns-in-Nothing c = grind (arith, codes_none c.args.codes, codes_released c.args.codes)

pub returns-in-Key : goal.returns-in-Key
returns-in-Key c = grind (arith, codes_one, codes_over)
