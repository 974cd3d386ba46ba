-- `settings::walk::chips` meets its contract. The invariant is `Left`: what is left of the text gives what the whole gives.
-- Assumes nothing.
use Rattle.settings.proofs.Walking.{Left}
use Rattle.settings.proofs.walk.chips.Given as goal

abbrev pub invariant-loop-k : goal.invariant-loop-k
invariant-loop-k l = Left l.n l.text l.from l.chips l.k l.place
