-- `zhaqsumir_tally` meets its contract: the numbers of what `count` answers to the tally that the numbers lent stand for.
-- Assumes nothing.
use Rattle.zhaqsumir.proofs.Counts.{tally_numbers}
use Rattle.zhaqsumir.proofs.zhaqsumir_tally.Goals as goal

pub returns : goal.returns
returns c =
    let counted = c.count-counted in
    tally_numbers counted.result c.chips_from.ensures counted.ensures c.verdict.ensures c.numbers_of.ensures
