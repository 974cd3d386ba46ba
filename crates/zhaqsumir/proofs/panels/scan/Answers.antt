-- `zhaqsumir::panels::scan` meets its contract: numbers that pass the tests stand for the chain whose chip is scanned.
-- Assumes nothing.
use mathlib.Core.Path.{ap, sym, ◌∙◌}
use mathlib.Core.List.{[], ◌∷◌}
use Rattle.base.specs.Refusals.{Outcome}
use Rattle.base.proofs.Refusals.{by_done, by_refusal}
use Rattle.chip.specs.Scans.{Recording}
use Rattle.chain.specs.declared.Chain.{Chain}
use Rattle.chain.specs.Entries.{scanned_of}
use Rattle.zhaqsumir.specs.Panels.{count_in, chain_of, scan_by, chain_numbers, panel_by}
use Rattle.zhaqsumir.proofs.panels.scan.Goals as goal

pub returns-in-Err : goal.returns-in-Err
returns-in-Err c =
    let a = c.args in
    let ns = a.numbers.now in
    let said = by_refusal (chain_of ns) (scanned_of (count_in ns) (chain_of ns) a.k a.contacts) c.tested-test.ensures c.in-Err.is in
    record {
      numbers = (λ i. c.number.ensures i ∷ c.place.ensures i ∷ 0 ∷ 0 ∷ []) ∙ sym (ap (λ (o : Outcome Chain Recording). scan_by o.told) said);
      panel = sym (ap (λ (o : Outcome Chain Recording). panel_by o.told (chain_numbers (count_in ns) (count_in ns) o.state) ns) said);
    }

pub returns-in-Ok : goal.returns-in-Ok
returns-in-Ok c =
    let a = c.args in
    let ns = a.numbers.now in
    let n = count_in ns in
    let said = by_done (chain_of ns) (scanned_of n (chain_of ns) a.k a.contacts) c.tested-test.ensures c.in-Ok.is in
    let whole = c.scan-scanned.ensures ∙ ap (λ (ch : Chain). scanned_of n ch a.k a.contacts) c.chain_of.ensures ∙ sym said in
    let after = c.after_scan.ensures in
    record {
      numbers = after.value ∙ ap (λ (o : Outcome Chain Recording). scan_by o.told) whole;
      panel = after.numbers_after ∙ ap (λ (o : Outcome Chain Recording). panel_by o.told (chain_numbers n n o.state) ns) whole;
    }
