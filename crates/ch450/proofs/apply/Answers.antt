-- `ch450::apply` meets its contract: its tests are the definition's.
-- Assumes nothing.
use mathlib.Core.Path.{ap, sym, ◌∙◌}
use borrow.Author.Tests.{not-true, not-false}
use Rattle.base.specs.Refusals.{done}
use Rattle.base.proofs.Picks.{pick_yes, pick_no}
use Rattle.ch450.specs.declared.Panel.{Panel}
use Rattle.ch450.proofs.apply.Goals as goal

pub returns-then-not-is_valid : goal.returns-then-not-is_valid
unfolding Rattle.ch450.specs.Entries.applied_of
returns-then-not-is_valid c = sym (pick_no _ _ (sym c.is_valid.ensures ∙ not-true c.is_valid.result c.if-not-is_valid.true-raw))

pub returns-then-not-is_legal : goal.returns-then-not-is_legal
unfolding Rattle.ch450.specs.Entries.applied_of
returns-then-not-is_legal c =
    let valid = c.is_valid in
    sym
    (pick_yes _ _ (sym valid.ensures ∙ not-false valid.result c.if-not-is_valid.false-raw)
    ∙ pick_no _ _ (sym c.is_legal.ensures ∙ not-true c.is_legal.result c.if-not-is_legal.true-raw))

pub returns : goal.returns
unfolding Rattle.ch450.specs.Entries.applied_of
returns c =
    let valid = c.is_valid in
    let legal = c.is_legal in
    ap (λ (p : Panel). record { state = p; told = done tt }) c.applied.ensures
    ∙ sym
    (pick_yes _ _ (sym valid.ensures ∙ not-false valid.result c.if-not-is_valid.false-raw)
    ∙ pick_yes _ _ (sym legal.ensures ∙ not-false legal.result c.if-not-is_legal.false-raw))
