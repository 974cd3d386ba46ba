-- `writer::tested_list` meets its contract: its tests are the definition's.
-- Assumes nothing.
use mathlib.Core.Path.{◌≡◌, sym, subst, ◌∙◌}
use mathlib.Core.Bool.{Bool, true, false, not}
use borrow.Author.Tests.{eq-eqb, ne_eqb, le-leb, lt-leb, not-true, not-false}
use lib.Dec.{T}
use Rattle.base.proofs.Picks.{pick_yes, pick_no}
use Rattle.chain.proofs.Tested.{count_low}
use Rattle.writer.proofs.tested_list.Goals as goal

-- a test that was not refused was passed
counted : {r t : Bool} → r ≡ t → not r ≡ false → t ≡ true
counted {r} e n = sym e ∙ not-false r n

pub returns-then-not-is_count : goal.returns-then-not-is_count
unfolding Rattle.writer.specs.Rows.list_test
returns-then-not-is_count c = sym (pick_no _ _ (sym c.is_count.ensures ∙ not-true c.is_count.result c.if-not-is_count.true-raw))

pub returns-then-words-n-ne0 : goal.returns-then-words-n-ne0
unfolding Rattle.writer.specs.Rows.list_test
returns-then-words-n-ne0 c = sym (pick_yes _ _ (counted c.is_count.ensures c.if-not-is_count.false-raw) ∙ pick_no _ _ (ne_eqb _ _ c.if-words-n-ne0.true))

pub returns-then-words-n-gt64 : goal.returns-then-words-n-gt64
unfolding Rattle.writer.specs.Rows.list_test
returns-then-words-n-gt64 c = sym (pick_yes _ _ (counted c.is_count.ensures c.if-not-is_count.false-raw) ∙ pick_yes _ _ (eq-eqb _ _ c.if-words-n-ne0.false) ∙ pick_no _ _ (lt-leb _ _ c.if-words-n-gt64.true))

pub tested_all-requires : goal.tested_all-requires
tested_all-requires c = count_low c.args.n (subst T (sym (counted c.is_count.ensures c.if-not-is_count.false-raw)) tt)

pub returns : goal.returns
unfolding Rattle.writer.specs.Rows.list_test
returns c =
    c.tested_all.ensures
    ∙ sym
    (pick_yes _ _ (counted c.is_count.ensures c.if-not-is_count.false-raw) ∙ pick_yes _ _ (eq-eqb _ _ c.if-words-n-ne0.false)
    ∙ pick_yes _ _ (le-leb _ _ c.if-words-n-gt64.false))
