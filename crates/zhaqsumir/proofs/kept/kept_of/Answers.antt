-- `zhaqsumir::kept::kept_of` meets its contract: each number in its field.
-- Assumes nothing.
use borrow.Author.Rules.{rules}
use Rattle.zhaqsumir.proofs.kept.kept_of.Goals as goal

pub returns : goal.returns
unfolding Rattle.zhaqsumir.specs.Settings.kept_of
returns c = search rules
