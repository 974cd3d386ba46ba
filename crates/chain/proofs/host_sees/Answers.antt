-- `chain::host_sees` meets its contract: a chain that passed its tests has a last chip.
-- Assumes nothing.
use mathlib.Core.Path.{ap, sym, ◌∙◌}
use mathlib.Core.Bool.{Bool}
use Rattle.base.specs.Refusals.{done, tells}
use Rattle.base.proofs.Refusals.{by_done, by_refusal}
use Rattle.chip.specs.Commands.{dout}
use Rattle.chain.proofs.Tested.{tested_done, count_low}
use Rattle.chain.proofs.host_sees.Goals as goal

pub overflow_sub-n : goal.overflow_sub-n
unfolding Rattle.chain.specs.Entries.seen_of
overflow_sub-n c =
    let a = c.args in
    count_low a.n (tested_done a.n a.chain (sym c.tested.ensures ∙ ap tells c.in_default.is)).0

pub returns-in-Err : goal.returns-in-Err
unfolding Rattle.chain.specs.Entries.seen_of
returns-in-Err c = sym (by_refusal _ _ c.tested.ensures c.in-Err.is)

pub returns : goal.returns
unfolding Rattle.chain.specs.Entries.seen_of
returns c =
    ap (λ (b : Bool). record { state = b; told = done tt }) (c.dout.ensures ∙ ap dout c.chip_at.ensures)
    ∙ sym (by_done _ _ c.tested.ensures c.in_default.is)
