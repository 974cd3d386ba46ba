-- `chain::blocks::block` meets its contract: its tests are the definition's.
-- Assumes nothing.
use mathlib.Core.Path.{◌≡◌, refl, ap, ap₂, sym, ◌∙◌}
use mathlib.Core.List.{List}
use Prim.Native.Nat.{ℕ, ◌≤◌, ◌<◌}
use native.Mathlib.Omega.{arith}
use borrow.Author.Tests.{le-leb, lt-leb}
use lib.ListN.{length}
use Rattle.base.specs.Refusals.{done, Outcome, handed}
use Rattle.base.proofs.Picks.{pick_yes, pick_no}
use Rattle.base.proofs.Refusals.{by_done, by_refusal}
use Rattle.chain.specs.declared.Chain.{Chain}
use Rattle.chain.specs.Blocks.{rises_in, block_of, list_by, Blocks}
use Rattle.chain.proofs.Tested.{with_samples}
use Rattle.chain.proofs.blocks.block.Goals as goal
use Rattle.base.specs.declared.Handed.{Handed}

-- what a block does, by an outcome that it is known to have
told : {n : ℕ} {ch : Chain} {ss list : List ℕ} (o : Outcome Chain ℕ) → block_of n ch ss list ≡ o → (r : Handed Chain ℕ) (list' : List ℕ) → handed r ≡ o
    → list' ≡ list_by o.told (rises_in ch ss) list
    → Blocks n ch ss list r list'
told {n} {ch} {ss} {list} o e r list' a l = record { answer = a ∙ sym e; places = l ∙ sym (ap (λ (p : Outcome Chain ℕ). list_by p.told (rises_in ch ss) list) e) }

pub returns-then-count-rises : goal.returns-then-count-rises
unfolding block_of
returns-then-count-rises c =
    let a = c.args in
    let few : length a.rises.now < length (rises_in a.chain a.samples.now) = omega (arith, c.if-count-rises.true, c.counted-count.ensures) in
    told _
    (with_samples c.args.n c.args.chain c.args.samples.now _ _
    ∙ by_done _ _ c.tested_with.ensures c.in_default.is
    ∙ pick_no _ _ (lt-leb (length (rises_in a.chain a.samples.now)) (length a.rises.now) few))
    _ _ refl refl

pub listed-requires : goal.listed-requires
listed-requires c = omega (arith, c.if-count-rises.false, c.counted-count.ensures)

pub returns-in-Err : goal.returns-in-Err
unfolding block_of
returns-in-Err c = told _ (with_samples c.args.n c.args.chain c.args.samples.now _ _ ∙ by_refusal _ _ c.tested_with.ensures c.in-Err.is) _ _ refl refl

pub returns : goal.returns
unfolding block_of
returns c =
    let a = c.args in
    let count = c.counted-count.ensures in
    let listed = c.listed.ensures in
    let room : length (rises_in a.chain a.samples.now) ≤ length a.rises.now = omega (arith, c.if-count-rises.false, count) in
    told _
    (with_samples c.args.n c.args.chain c.args.samples.now _ _
    ∙ by_done _ _ c.tested_with.ensures c.in_default.is
    ∙ pick_yes _ _ (le-leb (length (rises_in a.chain a.samples.now)) (length a.rises.now) room))
    _ _
    (ap₂ (λ (ch : Chain) (m : ℕ). record { state = ch; told = done m }) listed.value count)
    listed.rises_after
