-- `settings::frames::bit` meets its contract: a field of one bit.
-- Assumes nothing.
use mathlib.Core.Path.{ap}
use lib.Dec.{eqb}
use Rattle.settings.proofs.frames.bit.Goals as goal

pub returns : goal.returns
returns c = ap (λ w. eqb w 1) c.field.ensures
