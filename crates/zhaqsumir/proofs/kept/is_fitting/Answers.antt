-- `zhaqsumir::kept::is_fitting` meets its contract: the nine numbers are no more than their mosts.
-- Assumes nothing.
use Rattle.zhaqsumir.proofs.kept.is_fitting.Goals as goal

pub returns : goal.returns
unfolding Rattle.zhaqsumir.specs.Settings.kept_fits
returns c = c.are_within.ensures
