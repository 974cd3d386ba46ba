-- `zhaqsumir::chips::is_fitting` meets its contract: the 25 numbers are no more than their mosts.
-- Assumes nothing.
use Rattle.zhaqsumir.proofs.chips.is_fitting.Goals as goal

pub returns : goal.returns
unfolding Rattle.zhaqsumir.specs.Panels.chip_fits
returns c = c.are_within.ensures
