-- `zhaqsumir::kept::tested` meets its contract: its tests are the definition's.
-- Assumes nothing.
use mathlib.Core.Path.{sym, subst, ◌∙◌}
use Prim.Native.Nat.{◌≤◌}
use native.Mathlib.Omega.{arith}
use lib.Dec.{T}
use borrow.Author.Tests.{not-true, not-false}
use Rattle.base.proofs.Picks.{pick_yes, pick_no}
use Rattle.chain.proofs.Tested.{count_high}
use Rattle.zhaqsumir.specs.Panels.{count_in}
use Rattle.zhaqsumir.proofs.kept.tested.Goals as goal

pub returns-then-not-is_count : goal.returns-then-not-is_count
unfolding Rattle.zhaqsumir.specs.Settings.settings_tested
returns-then-not-is_count c =
    let n = c.is_count in
    sym (pick_no _ _ (sym n.ensures ∙ not-true n.result c.if-not-is_count.true-raw))

pub are_fitting-requires : goal.are_fitting-requires
are_fitting-requires c =
    let n = c.is_count in
    let ns = c.args.numbers.now in
    let most : count_in ns ≤ 8 = count_high (count_in ns) (subst T (sym (not-false n.result c.if-not-is_count.false-raw) ∙ n.ensures) tt) in
    omega arith

pub returns-then-not-are_fitting : goal.returns-then-not-are_fitting
unfolding Rattle.zhaqsumir.specs.Settings.settings_tested
returns-then-not-are_fitting c =
    let n = c.is_count in
    let f = c.are_fitting in
    sym
    (pick_yes _ _ (sym n.ensures ∙ not-false n.result c.if-not-is_count.false-raw)
    ∙ pick_no _ _ (sym f.ensures ∙ not-true f.result c.if-not-are_fitting.true-raw))

pub returns : goal.returns
unfolding Rattle.zhaqsumir.specs.Settings.settings_tested
returns c =
    let n = c.is_count in
    let f = c.are_fitting in
    sym
    (pick_yes _ _ (sym n.ensures ∙ not-false n.result c.if-not-is_count.false-raw)
    ∙ pick_yes _ _ (sym f.ensures ∙ not-false f.result c.if-not-are_fitting.false-raw))
