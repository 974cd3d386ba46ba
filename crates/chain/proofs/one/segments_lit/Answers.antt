-- `chain::one::segments_lit` meets its contract: its tests are the definition's.
-- Assumes nothing.
use mathlib.Core.Path.{ap, sym, ◌∙◌}
use mathlib.Core.List.{List}
use Prim.Native.Nat.{ℕ}
use Rattle.base.specs.Refusals.{done}
use Rattle.base.proofs.Refusals.{by_done, by_refusal}
use Rattle.chip.specs.Segments.{lit_of}
use Rattle.chain.proofs.Tested.{at_chip}
use Rattle.chain.proofs.one.segments_lit.Goals as goal

pub returns-in-Err : goal.returns-in-Err
unfolding Rattle.chain.specs.Entries.segments_of
returns-in-Err c = sym (at_chip c.args.n c.args.chain c.args.k _ _ ∙ by_refusal _ _ c.tested_at.ensures c.in-Err.is)

pub returns : goal.returns
unfolding Rattle.chain.specs.Entries.segments_of
returns c =
    ap (λ (ds : List ℕ). record { state = ds; told = done tt }) (c.lit.ensures ∙ ap lit_of c.chip_at.ensures)
    ∙ sym (at_chip c.args.n c.args.chain c.args.k _ _ ∙ by_done _ _ c.tested_at.ensures c.in_default.is)
