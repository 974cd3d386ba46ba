-- `ch450::play::sample` meets its contract: its tests are the definition's.
-- Assumes nothing.
use mathlib.Core.Path.{ap, ap₂, sym, ◌∙◌}
use borrow.Author.Tests.{le-leb, lt-leb}
use Rattle.base.specs.Refusals.{done}
use Rattle.base.proofs.Picks.{pick_yes, pick_no}
use Rattle.base.proofs.Refusals.{by_done, by_refusal}
use Rattle.ch450.specs.declared.Panel.{Panel}
use Rattle.ch450.specs.Entries as E
use Rattle.ch450.proofs.play.sample.Goals as goal
use Rattle.std.specs.declared.option.Option.{Option}
use Prim.Native.Nat.{ℕ}

pub returns-then-sample-gt3 : goal.returns-then-sample-gt3
unfolding E.sampled_of
returns-then-sample-gt3 c =
    sym
    (by_done _ _ c.tested.ensures c.in_default.is
    ∙ pick_no _ _ (lt-leb c.args.sample 3 c.if-sample-gt3.true))

pub returns-in-Err : goal.returns-in-Err
unfolding E.sampled_of
returns-in-Err c = sym (by_refusal _ _ c.tested.ensures c.in-Err.is)

pub returns : goal.returns
unfolding E.sampled_of
returns c =
    let a = c.args in
    ap₂ (λ (p : Panel) (r : Option ℕ). record { state = p; told = done r }) c.stepped.ensures
    (c.code_read.ensures ∙ ap (E.answer_to a.key) c.told_at.ensures)
    ∙ sym
    (by_done _ _ c.tested.ensures
    c.in_default.is
    ∙ pick_yes _ _ (le-leb a.sample 3 c.if-sample-gt3.false))
