-- `chain::blocks::counted` meets its contract. The invariant: the rises so far and those of the rest are all.
-- Assumes nothing.
use Rattle.std.proofs.Common.{ap, sym, length, ◌∙◌, arith}
use Rattle.base.proofs.Picks.{pick_yes, pick_no}
use Rattle.chain.proofs.Rises.{rises_more, rises_over}
use Rattle.chain.proofs.blocks.counted.Goals as goal
use Rattle.chain.proofs.blocks.counted.Goals.{then-load_rises, else-load_rises}

pub loop-s-preserved : goal.loop-s-preserved
loop-s-preserved c =
    let l = c.loop-s in
    let more = rises_more c.args.samples.now l.s-index l.was c.loop-s-test.true in
    elim c.if-load_rises.branch [
      | then-load_rises w ↦
          let e = ap length (more ∙ pick_yes _ _ (sym c.load_rises.ensures ∙ w.if-load_rises.true)) in
          rw (w.was-is, w.count-is) (omega arith, omega arith)
      | else-load_rises w ↦
          let e = ap length (more ∙ pick_no _ _ (sym c.load_rises.ensures ∙ w.if-load_rises.false)) in
          rw (w.was-is, w.count-is) (omega arith, omega arith)
    ]

pub returns : goal.returns
returns c =
    let l = c.loop-s in
    omega (arith, ap length (rises_over c.args.samples.now l.s-index l.was c.loop-s-test.false))
