-- `settings::puts::tested` meets its contract: 3, then 9.
-- Assumes nothing.
use mathlib.Core.Path.{sym, ◌∙◌}
use borrow.Author.Tests.{not-true, not-false}
use Rattle.base.proofs.Picks.{pick_yes, pick_no}
use Rattle.settings.specs.Putting.{settings_test}
use Rattle.settings.proofs.Bytes.{count_within}
use Rattle.settings.proofs.puts.tested.Goals as goal

pub returns-then-not-is_count : goal.returns-then-not-is_count
unfolding settings_test
returns-then-not-is_count c =
    let t = c.is_count in
    sym (pick_no _ _ (sym t.ensures ∙ not-true t.result c.if-not-is_count.true-raw))

pub all_legal-requires : goal.all_legal-requires
all_legal-requires c =
    let t = c.is_count in
    (count_within c.args.kiosk.n (sym t.ensures ∙ not-false t.result c.if-not-is_count.false-raw)).few

pub returns-then-not-all_legal : goal.returns-then-not-all_legal
unfolding settings_test
returns-then-not-all_legal c =
    let t = c.is_count in
    let l = c.all_legal in
    sym (pick_yes _ _ (sym t.ensures ∙ not-false t.result c.if-not-is_count.false-raw) ∙ pick_no _ _ (sym l.ensures ∙ not-true l.result c.if-not-all_legal.true-raw))

pub returns : goal.returns
unfolding settings_test
returns c =
    let t = c.is_count in
    let l = c.all_legal in
    sym (pick_yes _ _ (sym t.ensures ∙ not-false t.result c.if-not-is_count.false-raw) ∙ pick_yes _ _ (sym l.ensures ∙ not-false l.result c.if-not-all_legal.false-raw))
