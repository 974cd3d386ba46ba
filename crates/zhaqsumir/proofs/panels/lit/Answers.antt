-- `zhaqsumir::panels::lit` meets its contract: numbers that pass the tests stand for the chain whose segments are told.
-- Assumes nothing.
use mathlib.Core.Path.{ap, sym, ◌∙◌}
use mathlib.Core.List.{◌∷◌}
use Rattle.base.proofs.Refusals.{by_done, by_refusal}
use Rattle.chip.specs.Record.{blank}
use Rattle.chain.specs.declared.Chain.{Chain}
use Rattle.chain.specs.Entries.{segments_of}
use Rattle.zhaqsumir.specs.Panels.{count_in, chain_of}
use Rattle.zhaqsumir.specs.TwoWires.{lit_by}
use Rattle.zhaqsumir.proofs.panels.lit.Goals as goal

pub returns-in-Err : goal.returns-in-Err
returns-in-Err c =
    let a = c.args in
    let ns = a.numbers.now in
    (λ i. c.number.ensures i ∷ c.place.ensures i ∷ blank)
    ∙ sym (ap lit_by (by_refusal blank (segments_of (count_in ns) (chain_of ns) a.k) c.tested-test.ensures c.in-Err.is))

pub returns-in-Ok : goal.returns-in-Ok
returns-in-Ok c =
    let a = c.args in
    let ns = a.numbers.now in
    c.segments.ensures
    ∙ ap lit_by (c.segments_lit.ensures ∙ ap (λ (ch : Chain). segments_of (count_in ns) ch a.k) c.chain_of.ensures)
    ∙ sym (ap lit_by (by_done blank (segments_of (count_in ns) (chain_of ns) a.k) c.tested-test.ensures c.in-Ok.is))
