-- `zhaqsumir::chains::tested` meets its contract: its tests are the definition's.
-- Assumes nothing.
use mathlib.Core.Path.{ap, ap₂, sym, subst, ◌∙◌}
use mathlib.Core.Bool.{◌&&◌}
use Prim.Native.Nat.{◌≤◌}
use native.Mathlib.Omega.{arith}
use lib.Dec.{T}
use lib.ListN.{get_or}
use borrow.Author.Tests.{not-true, not-false, le-leb, lt-leb}
use Rattle.base.specs.Below.{below}
use Rattle.base.proofs.Picks.{pick_yes, pick_no}
use Rattle.chain.proofs.Tested.{count_high}
use Rattle.zhaqsumir.specs.Panels.{chip_fits_in, count_in}
use Rattle.zhaqsumir.proofs.chains.tested.Goals as goal

pub returns-then-not-is_count : goal.returns-then-not-is_count
unfolding Rattle.zhaqsumir.specs.Panels.tested_in
returns-then-not-is_count c =
    let n = c.is_count in
    sym (pick_no _ _ (sym n.ensures ∙ not-true n.result c.if-not-is_count.true-raw))

pub returns-then-numbers-gt255 : goal.returns-then-numbers-gt255
unfolding Rattle.zhaqsumir.specs.Panels.tested_in
returns-then-numbers-gt255 c =
    let n = c.is_count in
    let ns = c.args.numbers.now in
    sym
    (pick_yes _ _ (sym n.ensures ∙ not-false n.result c.if-not-is_count.false-raw)
    ∙ pick_no _ _ (ap (λ t. t && below (chip_fits_in ns) (count_in ns)) (lt-leb (get_or ns 1 0) 255 c.if-numbers-gt255.true)))

pub are_fitting-requires : goal.are_fitting-requires
are_fitting-requires c =
    let n = c.is_count in
    let ns = c.args.numbers.now in
    let most : count_in ns ≤ 8 = count_high (count_in ns) (subst T (sym (not-false n.result c.if-not-is_count.false-raw) ∙ n.ensures) tt) in
    omega arith

pub returns-then-not-are_fitting : goal.returns-then-not-are_fitting
unfolding Rattle.zhaqsumir.specs.Panels.tested_in
returns-then-not-are_fitting c =
    let n = c.is_count in
    let f = c.are_fitting in
    let ns = c.args.numbers.now in
    sym
    (pick_yes _ _ (sym n.ensures ∙ not-false n.result c.if-not-is_count.false-raw)
    ∙ pick_no _ _ (ap₂ ◌&&◌ (le-leb (get_or ns 1 0) 255 c.if-numbers-gt255.false) (sym f.ensures ∙ not-true f.result c.if-not-are_fitting.true-raw)))

pub returns : goal.returns
unfolding Rattle.zhaqsumir.specs.Panels.tested_in
returns c =
    let n = c.is_count in
    let f = c.are_fitting in
    let ns = c.args.numbers.now in
    sym
    (pick_yes _ _ (sym n.ensures ∙ not-false n.result c.if-not-is_count.false-raw)
    ∙ pick_yes _ _ (ap₂ ◌&&◌ (le-leb (get_or ns 1 0) 255 c.if-numbers-gt255.false) (sym f.ensures ∙ not-false f.result c.if-not-are_fitting.false-raw)))
