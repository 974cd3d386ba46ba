-- `zhaqsumir::panels::block` meets its contract: numbers that pass the tests stand for the chain that plays the samples.
-- Assumes nothing.
use mathlib.Core.Path.{ap, sym, ◌∙◌}
use mathlib.Core.List.{[], ◌∷◌}
use Prim.Native.Nat.{ℕ}
use Rattle.base.specs.Refusals.{Outcome}
use Rattle.base.proofs.Refusals.{by_done, by_refusal}
use Rattle.chain.specs.declared.Chain.{Chain}
use Rattle.chain.specs.Blocks.{block_of, rises_in, list_by, list_of}
use Rattle.zhaqsumir.specs.Numbers.{alone}
use Rattle.zhaqsumir.specs.Panels.{count_in, chain_of, chain_numbers, panel_by}
use Rattle.zhaqsumir.proofs.panels.block.Goals as goal

pub returns-in-Err : goal.returns-in-Err
returns-in-Err c =
    let a = c.args in
    let ns = a.panel.numbers in
    let n = count_in ns in
    let ss = a.samples.now in
    let list = a.rises.now in
    let said = by_refusal (chain_of ns) (block_of n (chain_of ns) ss list) c.tested-test.ensures c.in-Err.is in
    record {
      numbers = (λ i. c.number.ensures i ∷ c.place.ensures i ∷ 0 ∷ []) ∙ sym (ap (λ (o : Outcome Chain ℕ). alone o.told) said);
      panel = sym (ap (λ (o : Outcome Chain ℕ). panel_by o.told (chain_numbers n n o.state) ns) said);
      places = sym (ap (λ (o : Outcome Chain ℕ). list_by o.told (rises_in (chain_of ns) ss) list) said);
    }

pub returns-in-Ok : goal.returns-in-Ok
returns-in-Ok c =
    let a = c.args in
    let ns = a.panel.numbers in
    let n = count_in ns in
    let ss = a.samples.now in
    let list = a.rises.now in
    let said = by_done (chain_of ns) (block_of n (chain_of ns) ss list) c.tested-test.ensures c.in-Ok.is in
    let made = c.chain_of.ensures in
    let played = c.block-after.ensures in
    let whole = played.answer ∙ ap (λ (ch : Chain). block_of n ch ss list) made ∙ sym said in
    let after = c.after_block.ensures in
    record {
      numbers = after.value ∙ ap (λ (o : Outcome Chain ℕ). alone o.told) whole;
      panel = after.numbers_after ∙ ap (λ (o : Outcome Chain ℕ). panel_by o.told (chain_numbers n n o.state) ns) whole;
      places = played.places ∙ ap (λ (ch : Chain). list_of n ch ss list) made ∙ sym (ap (λ (o : Outcome Chain ℕ). list_by o.told (rises_in (chain_of ns) ss) list) said);
    }
