-- `zhaqsumir::chips::chip_of` meets its contract: the record by its parts.
-- Assumes nothing.
use Rattle.zhaqsumir.proofs.chips.chip_of.Goals as goal

pub returns : goal.returns
unfolding Rattle.zhaqsumir.specs.Panels.chip_of
returns c = λ i. record {
  line = c.line_of.ensures i;
  settings = c.settings_of.ensures i;
  digits = c.digits_of.ensures i;
  keys = c.keys_of.ensures i;
}
