-- `base::field` meets its contract: past bit 15 nothing is left, a width of 16 or more cuts nothing off, and otherwise the mask
-- is a remainder.
-- Assumes nothing.
use Rattle.std.proofs.Common.{sym, ◌/◌, ◌^◌}
use Rattle.base.proofs.Cuts.{cut_past, cut_whole, masked}
use Rattle.base.proofs.field.Goals as goal

pub returns-then-at-ge16 : goal.returns-then-at-ge16
returns-then-at-ge16 c = sym (cut_past 16 c.args.n c.args.at c.args.width c.ranges.n.fits c.if-at-ge16.true)

pub returns-then-width-ge16 : goal.returns-then-width-ge16
returns-then-width-ge16 c = sym (cut_whole 16 c.args.n c.args.at c.args.width c.ranges.n.fits c.if-width-ge16.true)

pub returns-else-width-ge16 : goal.returns-else-width-ge16
returns-else-width-ge16 c = masked 16 (c.args.n / 2 ^ c.args.at) c.args.width c.if-width-ge16.false
