-- `streams::held::frame` meets its contract: a line too long has no bytes.
-- Assumes nothing.
use Rattle.std.proofs.Common.{◌∙◌}
use Rattle.streams.proofs.Helds.{frame_long}
use Rattle.streams.proofs.held.frame.Goals as goal

pub returns-then-held-gt66 : goal.returns-then-held-gt66
returns-then-held-gt66 c = c.frame_of.ensures ∙ frame_long c.args.held c.if-held-gt66.true
