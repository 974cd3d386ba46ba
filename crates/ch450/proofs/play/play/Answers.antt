-- `ch450::play::play` meets its contract: its tests are the definition's.
-- Assumes nothing.
use mathlib.Core.Path.{ap, sym, ◌∙◌}
use Rattle.base.specs.Refusals.{done}
use Rattle.base.proofs.Refusals.{by_done, by_refusal}
use Rattle.ch450.specs.declared.play.Run.{Run}
use Rattle.ch450.specs.Entries as E
use Rattle.ch450.proofs.play.play.Goals as goal

pub returns-in-Err : goal.returns-in-Err
unfolding E.played_of
returns-in-Err c = sym (by_refusal _ _ c.tested.ensures c.in-Err.is)

pub returns-in-Err-checked : goal.returns-in-Err-checked
unfolding E.played_of
returns-in-Err-checked c =
    sym
    (by_done _ _ c.tested.ensures c.in_default.is
    ∙ by_refusal _ _ c.checked.ensures c.in-Err-checked.is)

pub returns : goal.returns
unfolding E.played_of
returns c =
    ap (λ (r : Run). record { state = r.panel; told = done r.reads }) c.all_played-run.ensures
    ∙ sym
    (by_done _ _ c.tested.ensures
    c.in_default.is
    ∙ by_done _ _ c.checked.ensures c.in_default-checked.is)
