-- `chain::finder::next_rise` meets its contract: its tests are the definition's.
-- Assumes nothing.
use mathlib.Core.Path.{ap, sym, ◌∙◌}
use borrow.Author.Tests.{le-leb, lt-leb}
use Rattle.base.specs.Refusals.{Told, done, tells}
use Rattle.base.proofs.Picks.{pick_yes, pick_no}
use Rattle.chain.specs.Finder.{Report, reported, looked_of}
use Rattle.chain.proofs.finder.next_rise.Goals as goal

pub returns-then-levels-gt7 : goal.returns-then-levels-gt7
unfolding Rattle.chain.specs.Finder.found_of
returns-then-levels-gt7 c = sym (pick_no _ _ (lt-leb _ _ c.if-levels-gt7.true))

pub returns-in-Err : goal.returns-in-Err
unfolding Rattle.chain.specs.Finder.found_of
returns-in-Err c =
    sym
    (pick_yes _ _ (le-leb _ _ c.if-levels-gt7.false)
    ∙ ap (λ (t : Told (Unit {0})). reported t (looked_of c.args.levels c.args.samples.now)) (sym c.checked.ensures ∙ ap tells c.in-Err.is))

pub returns : goal.returns
unfolding Rattle.chain.specs.Finder.found_of
returns c =
    ap (λ (w : Report). record { state = w; told = done tt }) c.looked-rise.ensures
    ∙ sym
    (pick_yes _ _ (le-leb _ _ c.if-levels-gt7.false)
    ∙ ap (λ (t : Told (Unit {0})). reported t (looked_of c.args.levels c.args.samples.now)) (sym c.checked.ensures ∙ ap tells c.in_default.is))
