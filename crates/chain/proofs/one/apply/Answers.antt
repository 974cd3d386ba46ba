-- `chain::one::apply` meets its contract: its tests are the definition's.
-- Assumes nothing.
use mathlib.Core.Path.{ap, sym, ◌∙◌}
use borrow.Author.Tests.{lt-ltb, le-ltb, not-true, not-false}
use Rattle.base.specs.Refusals.{done}
use Rattle.base.proofs.Picks.{pick_yes, pick_no}
use Rattle.base.proofs.Refusals.{by_done, by_refusal}
use Rattle.chip.specs.declared.Chip.{Chip}
use Rattle.chip.specs.Commands.{applied}
use Rattle.chain.specs.declared.Chain.{Chain}
use Rattle.chain.specs.Entries as E
use Rattle.chain.proofs.one.apply.Goals as goal

pub returns-then-not-is_legal : goal.returns-then-not-is_legal
unfolding E.applied_of
returns-then-not-is_legal c =
    sym
    (by_done _ _ c.tested.ensures c.in_default.is
    ∙ pick_no _ _ (sym c.is_legal.ensures ∙ not-true c.is_legal.result c.if-not-is_legal.true-raw))

pub returns-then-k-n : goal.returns-then-k-n
unfolding E.applied_of
returns-then-k-n c =
    sym
    (by_done _ _ c.tested.ensures c.in_default.is
    ∙ pick_yes _ _ (sym c.is_legal.ensures ∙ not-false c.is_legal.result c.if-not-is_legal.false-raw)
    ∙ pick_no _ _ (le-ltb _ _ c.if-k-n.true))

pub returns-in-Err : goal.returns-in-Err
unfolding E.applied_of
returns-in-Err c = sym (by_refusal _ _ c.tested.ensures c.in-Err.is)

pub returns : goal.returns
unfolding E.applied_of
returns c =
    let a = c.args in
    ap (λ (ch : Chain). record { state = ch; told = done tt })
    (c.with_chip.ensures ∙ ap (λ (d : Chip). E.with_chip a.k d a.chain) (c.applied-after.ensures ∙ ap (applied a.command) c.chip_at.ensures))
    ∙ sym
    (by_done _ _ c.tested.ensures c.in_default.is
    ∙ pick_yes _ _ (sym c.is_legal.ensures ∙ not-false c.is_legal.result c.if-not-is_legal.false-raw)
    ∙ pick_yes _ _ (lt-ltb _ _ c.if-k-n.false))
