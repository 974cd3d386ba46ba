-- `ch450::play::tested` meets its contract: its tests are the definition's.
-- Assumes nothing.
use mathlib.Core.Path.{sym, ◌∙◌}
use borrow.Author.Tests.{le-leb, lt-leb, not-true, not-false}
use Rattle.base.proofs.Picks.{pick_yes, pick_no}
use Rattle.ch450.specs.Entries as E
use Rattle.ch450.proofs.play.tested.Goals as goal

pub returns-then-not-is_valid : goal.returns-then-not-is_valid
unfolding E.tested_of
returns-then-not-is_valid c = sym (pick_no _ _ (sym c.is_valid.ensures ∙ not-true c.is_valid.result c.if-not-is_valid.true-raw))

pub returns-then-key-gt127 : goal.returns-then-key-gt127
unfolding E.tested_of
returns-then-key-gt127 c =
    let valid = c.is_valid in
    sym
    (pick_yes _ _ (sym valid.ensures ∙ not-false valid.result c.if-not-is_valid.false-raw)
    ∙ pick_no _ _ (lt-leb c.args.key 127 c.if-key-gt127.true))

pub returns : goal.returns
unfolding E.tested_of
returns c =
    let valid = c.is_valid in
    sym
    (pick_yes _ _ (sym valid.ensures ∙ not-false valid.result c.if-not-is_valid.false-raw)
    ∙ pick_yes _ _ (le-leb c.args.key 127 c.if-key-gt127.false))
