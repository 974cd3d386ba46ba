-- `chain::checks::tested` meets its contract: its tests are the definition's.
-- Assumes nothing.
use mathlib.Core.Path.{sym, ◌∙◌}
use borrow.Author.Tests.{not-true, not-false}
use Rattle.base.proofs.Picks.{pick_yes, pick_no}
use Rattle.chain.proofs.checks.tested.Goals as goal

pub returns-then-not-is_count : goal.returns-then-not-is_count
unfolding Rattle.chain.specs.Chain.tested_of
returns-then-not-is_count c = sym (pick_no _ _ (sym c.is_count.ensures ∙ not-true c.is_count.result c.if-not-is_count.true-raw))

pub returns-then-not-is_valid : goal.returns-then-not-is_valid
unfolding Rattle.chain.specs.Chain.tested_of
returns-then-not-is_valid c =
    sym
    (pick_yes _ _ (sym c.is_count.ensures ∙ not-false c.is_count.result c.if-not-is_count.false-raw)
    ∙ pick_no _ _ (sym c.is_valid.ensures ∙ not-true c.is_valid.result c.if-not-is_valid.true-raw))

pub returns : goal.returns
unfolding Rattle.chain.specs.Chain.tested_of
returns c =
    sym
    (pick_yes _ _ (sym c.is_count.ensures ∙ not-false c.is_count.result c.if-not-is_count.false-raw)
    ∙ pick_yes _ _ (sym c.is_valid.ensures ∙ not-false c.is_valid.result c.if-not-is_valid.false-raw))
