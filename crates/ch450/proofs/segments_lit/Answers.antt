-- `ch450::segments_lit` meets its contract: its test is the definition's.
-- Assumes nothing.
use mathlib.Core.Path.{ap, sym, ◌∙◌}
use mathlib.Core.List.{List}
use Prim.Native.Nat.{ℕ}
use borrow.Author.Tests.{not-true, not-false}
use Rattle.base.specs.Refusals.{done}
use Rattle.base.proofs.Picks.{pick_yes, pick_no}
use Rattle.ch450.proofs.segments_lit.Goals as goal

pub returns-then-not-is_valid : goal.returns-then-not-is_valid
unfolding Rattle.ch450.specs.Entries.segments_of
returns-then-not-is_valid c = sym (pick_no _ _ (sym c.is_valid.ensures ∙ not-true c.is_valid.result c.if-not-is_valid.true-raw))

pub returns : goal.returns
unfolding Rattle.ch450.specs.Entries.segments_of
returns c =
    let valid = c.is_valid in
    ap (λ (ds : List ℕ). record { state = ds; told = done tt }) c.shining.ensures
    ∙ sym (pick_yes _ _ (sym valid.ensures ∙ not-false valid.result c.if-not-is_valid.false-raw))
