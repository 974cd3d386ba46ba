-- `reads::some` meets its contract.
-- Assumes nothing.
use Rattle.reads.proofs.Watching.{one_alone}
use Rattle.reads.proofs.some.Goals as goal

-- none was looked at ahead
pub returns-then-ahead-eq0 : goal.returns-then-ahead-eq0
returns-then-ahead-eq0 c = one_alone c.look_ahead-ahead.ensures c.args.what c.requires.in_bounds c.if-ahead-eq0.true c.sampled.ensures
