-- `chip::commands::with_bit` meets its contract: an OR puts the bit in, and an AND masks it out.
-- Assumes nothing.
use Rattle.std.proofs.Common.{sym, ◌∙◌}
use Rattle.base.proofs.Picks.{pick_yes, pick_no}
use Rattle.base.proofs.Bytes.{bit_made}
use Rattle.chip.proofs.commands.with_bit.Goals as goal

pub returns-then-on : goal.returns-then-on
returns-then-on c = let a = c.args in sym (bit_made a.on a.seg a.byte c.requires c.ranges.byte.fits ∙ pick_yes _ _ c.if-on.true)

pub returns-else-on : goal.returns-else-on
returns-else-on c = let a = c.args in sym (bit_made a.on a.seg a.byte c.requires c.ranges.byte.fits ∙ pick_no _ _ c.if-on.false)
