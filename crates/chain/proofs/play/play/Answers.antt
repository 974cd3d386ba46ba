-- `chain::play::play` meets its contract: its tests are the definition's.
-- Assumes nothing.
use mathlib.Core.Path.{ap, sym, ◌∙◌}
use Rattle.base.specs.Refusals.{done}
use Rattle.base.proofs.Refusals.{by_done, by_refusal}
use Rattle.chain.specs.declared.Chain.{Chain}
use Rattle.chain.proofs.Tested.{with_samples}
use Rattle.chain.proofs.play.play.Goals as goal

pub returns-in-Err : goal.returns-in-Err
unfolding Rattle.chain.specs.Entries.played_of
returns-in-Err c = sym (with_samples c.args.n c.args.chain c.args.samples.now _ _ ∙ by_refusal _ _ c.tested_with.ensures c.in-Err.is)

pub returns : goal.returns
unfolding Rattle.chain.specs.Entries.played_of
returns c =
    ap (λ (ch : Chain). record { state = ch; told = done tt }) c.played.ensures
    ∙ sym (with_samples c.args.n c.args.chain c.args.samples.now _ _ ∙ by_done _ _ c.tested_with.ensures c.in_default.is)
