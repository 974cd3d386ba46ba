-- `zhaqsumir::panels::sees` meets its contract: numbers that pass the tests stand for the chain that the host sees.
-- Assumes nothing.
use mathlib.Core.Path.{ap, sym, ◌∙◌}
use mathlib.Core.Bool.{false}
use mathlib.Core.List.{[], ◌∷◌}
use Rattle.base.proofs.Refusals.{by_done, by_refusal}
use Rattle.chain.specs.Entries.{seen_of}
use Rattle.zhaqsumir.specs.Panels.{count_in, chain_of, sees_by}
use Rattle.zhaqsumir.proofs.panels.sees.Goals as goal

pub returns-in-Err : goal.returns-in-Err
returns-in-Err c =
    let ns = c.args.numbers.now in
    (λ i. c.number.ensures i ∷ c.place.ensures i ∷ 0 ∷ [])
    ∙ sym (ap sees_by (by_refusal false (seen_of (count_in ns) (chain_of ns)) c.tested-test.ensures c.in-Err.is))

pub returns-in-Ok : goal.returns-in-Ok
returns-in-Ok c =
    let ns = c.args.numbers.now in
    c.level.ensures ∙ ap sees_by (c.host_sees.ensures ∙ ap (seen_of (count_in ns)) c.chain_of.ensures)
    ∙ sym (ap sees_by (by_done false (seen_of (count_in ns) (chain_of ns)) c.tested-test.ensures c.in-Ok.is))
