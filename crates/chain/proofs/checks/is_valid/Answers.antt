-- `chain::checks::is_valid` meets its contract: the first records are valid where each of them is.
-- Assumes nothing.
use Rattle.std.proofs.Common.{rules, tests, ◌≡◌, ◌∙◌, sym, Bool, ◌&&◌, ap, take, leb}
use Rattle.std.proofs.lemmas.Iterator.{YieldsList-from_slice, YieldsList-from_take}
use Rattle.std.proofs.lemmas.Iterator.Search.{all_from_yields_List}
use Rattle.std.specs.List.{list_all}
use Rattle.chip.specs.Record.{valid}
use Rattle.chain.proofs.Rest.{valid_front}
use Rattle.chain.proofs.checks.is_valid.Goals as goal

pub returns-then-all : goal.returns-then-all
returns-then-all c =
    let p : c.all.result ≡ list_all valid (take c.args.n c.args.chain.chips) =
    all_from_yields_List valid _ _ c.all.result c.all.ensures.ran (YieldsList-from_take _ (YieldsList-from_slice c.args.chain.chips cc) c.take.ensures.count) (λ x b q k. search (rules, tests)) in
    ap (λ (b : Bool). b && leb c.args.chain.levels 7) (sym c.if-all.true ∙ p ∙ sym (valid_front c.args.n c.args.chain.chips))

pub returns-else-all : goal.returns-else-all
returns-else-all c =
    let p : c.all.result ≡ list_all valid (take c.args.n c.args.chain.chips) =
    all_from_yields_List valid _ _ c.all.result c.all.ensures.ran (YieldsList-from_take _ (YieldsList-from_slice c.args.chain.chips cc) c.take.ensures.count) (λ x b q k. search (rules, tests)) in
    c.if-all.false ∙ ap (λ (b : Bool). b && leb c.args.chain.levels 7) (sym c.if-all.false ∙ p ∙ sym (valid_front c.args.n c.args.chain.chips))
