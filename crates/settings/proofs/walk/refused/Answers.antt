-- `settings::walk::refused` meets its contract: zeros, and the refusal.
-- Assumes nothing.
use mathlib.Core.Path.{ap}
use lib.ListN.{replicate}
use Rattle.base.specs.Refusals.{hands_back, number_of, place_of}
use Rattle.chain.specs.Chain.{most}
use Rattle.settings.proofs.walk.refused.Goals as goal

pub returns : goal.returns
returns c = ap (λ x. hands_back (record { n = 0; chips = replicate most x }) (number_of c.args.e) (place_of c.args.e)) c.none.ensures
