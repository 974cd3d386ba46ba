-- `chain::finder::looked` meets its contract. The invariant: the next LOAD rise of the rest is that of the whole.
-- Assumes nothing.
use Rattle.std.proofs.Common.{◌≡◌, ap, sym, length, ◌∙◌, ◌+◌, ◌-◌, arith}
use Rattle.base.proofs.Picks.{pick_yes, pick_no}
use Rattle.chip.specs.Edges.{load_rises}
use Rattle.chain.specs.Finder.{NextRise, passed_by}
use Rattle.chain.proofs.Rest.{rise_more, rise_over}
use Rattle.chain.proofs.finder.looked.Goals as goal

pub loop-s-preserved : goal.loop-s-preserved
loop-s-preserved c =
    let l = c.loop-s in
    let ss = c.args.samples.now in
    let e = c.in-Some.ensures.lookup.3 in
    rw (e.1 0) (omega arith, sym (rise_more ss l.passed l.was e.0 ∙ pick_no _ _ (ap (load_rises l.was) (sym (e.1 0)) ∙ sym c.if-load_rises.ensures)) ∙ l.invariant.1)

pub returns-in_default : goal.returns-in_default
returns-in_default c =
    let l = c.loop-s in
    let ss = c.args.samples.now in
    let over = c.in_default.ensures.lookup.3 in
    let e = sym (rise_over ss l.passed l.was over) ∙ l.invariant.1 in
    let all : l.passed ≡ length ss = omega arith in
    λ i. record { rise = e i; passed = (all ∙ ap (λ (r : NextRise). passed_by r (length ss)) e) i }

pub returns-then-load_rises : goal.returns-then-load_rises
returns-then-load_rises c =
    let l = c.loop-s in
    let ss = c.args.samples.now in
    let got = c.in-Some.ensures.lookup.3 in
    let e =
    sym (rise_more ss l.passed l.was got.0 ∙ pick_yes _ _ (ap (load_rises l.was) (sym (got.1 0)) ∙ sym c.if-load_rises.ensures))
    ∙ l.invariant.1 in
    let back : l.passed + 1 - 1 ≡ l.passed = omega arith in
    rw back (λ i. record { rise = e i; passed = ap (λ (r : NextRise). passed_by r (length ss)) e i })
