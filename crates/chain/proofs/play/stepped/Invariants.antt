-- `chain::play::stepped` meets its contract. The invariant: the chips done so far, and the row of the rest, are the row of the whole.
-- Assumes nothing.
use Rattle.std.proofs.Common.{◌≡◌, ◌++◌, ◌-◌, take, drop}
use Rattle.chain.specs.Chain.{stepped_row}
use Rattle.chain.proofs.play.stepped.Given as goal

abbrev pub invariant-loop-c : goal.invariant-loop-c
invariant-loop-c l =
    take l.c-index l.c-items ++ stepped_row (l.n - l.c-index) l.chain.levels l.sample l.d (drop l.c-index l.c-items) ≡ stepped_row l.n l.chain.levels l.sample l.initial.d l.initial.c-items
