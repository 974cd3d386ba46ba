-- `chain::start` meets its contract: its test is the definition's.
-- Assumes nothing.
use mathlib.Core.Path.{ap, sym, ◌∙◌}
use borrow.Author.Tests.{not-true, not-false}
use lib.ListN.{replicate}
use Rattle.base.specs.Refusals.{done, refused}
use Rattle.base.proofs.Picks.{pick_yes, pick_no}
use Rattle.chip.specs.declared.Chip.{Chip}
use Rattle.chain.specs.declared.Chain.{Chain}
use Rattle.chain.specs.Chain.{most}
use Rattle.chain.proofs.start.Goals as goal

pub returns-then-not-is_count : goal.returns-then-not-is_count
unfolding Rattle.chain.specs.Entries.started_of
returns-then-not-is_count c =
    ap (λ (ch : Chain). record { state = ch; told = refused 3 0 }) c.zero_chain.ensures
    ∙ sym (pick_no _ _ (sym c.is_count.ensures ∙ not-true c.is_count.result c.if-not-is_count.true-raw))

pub returns : goal.returns
unfolding Rattle.chain.specs.Entries.started_of
returns c =
    ap (λ (r : Chip). record { state = record { chips = replicate most r; levels = 7 }; told = done tt }) c.reset_chip.ensures
    ∙ sym (pick_yes _ _ (sym c.is_count.ensures ∙ not-false c.is_count.result c.if-not-is_count.false-raw))
