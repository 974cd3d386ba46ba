-- `chain::checks::tested_at` meets its contract: its tests are the definition's.
-- Assumes nothing.
use mathlib.Core.Path.{ap, sym, ◌∙◌}
use borrow.Author.Tests.{lt-ltb, le-ltb}
use Rattle.std.proofs.lemmas.Result.{err_from_is_err_and}
use Rattle.base.specs.Refusals.{refused_by, tells}
use Rattle.base.proofs.Picks.{pick_yes, pick_no}
use Rattle.base.proofs.Refusals.{then_done, then_refused}
use Rattle.chain.proofs.checks.tested_at.Goals as goal

pub returns-in_err-tested : goal.returns-in_err-tested
returns-in_err-tested c =
    let given = err_from_is_err_and c.from_residual.result c.from_residual.ensures.1 in
    ap tells given.1 ∙ ap refused_by given.2 ∙ sym (then_refused _ c.tested.ensures c.in_err-tested.was)

pub returns-then-k-n : goal.returns-then-k-n
returns-then-k-n c = sym (then_done _ c.tested.ensures c.in_ok-tested.was ∙ pick_no _ _ (le-ltb _ _ c.if-k-n.true))

pub returns : goal.returns
returns c = sym (then_done _ c.tested.ensures c.in_ok-tested.was ∙ pick_yes _ _ (lt-ltb _ _ c.if-k-n.false))
