-- `zhaqsumir::two_wires::command_from` meets its contract: the number matched is the kind.
-- Assumes nothing.
use mathlib.Core.Path.{sym, ◌∙◌}
use native.Mathlib.Omega.{arith}
use borrow.Author.Tests.{eq-eqb, ne_eqb}
use Rattle.base.proofs.Picks.{pick_yes, pick_no}
use Rattle.zhaqsumir.specs.TwoWires.{command_from}
use Rattle.zhaqsumir.proofs.two_wires.command_from.Goals as goal

pub returns-in-0 : goal.returns-in-0
unfolding command_from
returns-in-0 c =
    let kind = c.args.kind in
    c.parameters_from.ensures ∙ sym (pick_yes _ _ (eq-eqb kind 0 (omega arith)))

pub returns-in-1 : goal.returns-in-1
unfolding command_from
returns-in-1 c =
    let kind = c.args.kind in
    c.digit_from.ensures ∙ sym (pick_no _ _ (ne_eqb kind 0 (omega arith)) ∙ pick_yes _ _ (eq-eqb kind 1 (omega arith)))

pub returns-in-2 : goal.returns-in-2
unfolding command_from
returns-in-2 c =
    let kind = c.args.kind in
    sym
    (pick_no _ _ (ne_eqb kind 0 (omega arith)) ∙ pick_no _ _ (ne_eqb kind 1 (omega arith)) ∙ pick_yes _ _ (eq-eqb kind 2 (omega arith)))

pub returns-in_default : goal.returns-in_default
unfolding command_from
returns-in_default c =
    let kind = c.args.kind in
    let m = c.in_default.in_default-own.rest in
    sym (pick_no _ _ (ne_eqb kind 0 m.0.0.1) ∙ pick_no _ _ (ne_eqb kind 1 m.0.1) ∙ pick_no _ _ (ne_eqb kind 2 m.1))
