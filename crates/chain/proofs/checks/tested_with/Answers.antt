-- `chain::checks::tested_with` meets its contract: its tests are the definition's.
-- Assumes nothing.
use mathlib.Core.Path.{ap, sym, ◌∙◌}
use Rattle.std.proofs.lemmas.Result.{err_from_is_err_and}
use Rattle.base.specs.Refusals.{refused_by, tells}
use Rattle.base.proofs.Refusals.{then_done, then_refused}
use Rattle.chain.proofs.checks.tested_with.Goals as goal

pub returns-in_err-tested : goal.returns-in_err-tested
returns-in_err-tested c =
    let given = err_from_is_err_and c.from_residual.result c.from_residual.ensures.1 in
    ap tells given.1 ∙ ap refused_by given.2 ∙ sym (then_refused _ c.tested.ensures c.in_err-tested.was)

pub returns : goal.returns
returns c = c.checked.ensures ∙ sym (then_done _ c.tested.ensures c.in_ok-tested.was)
