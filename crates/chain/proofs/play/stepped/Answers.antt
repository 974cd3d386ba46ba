-- `chain::play::stepped` meets its contract. The invariant: the chips done so far, and the row of the rest, are the row of the whole.
-- Assumes nothing.
use Rattle.std.proofs.Common.{◌<◌, length, ap, ◌∙◌, arith, List, Bool}
use lib.ListN.{length-take}
use Rattle.chip.specs.declared.Chip.{Chip}
use Rattle.chain.specs.Chain.{stepped_row}
use Rattle.chain.proofs.Rest.{row_more, row_done}
use Rattle.chain.proofs.play.stepped.Goals as goal

pub loop-c-preserved : goal.loop-c-preserved
loop-c-preserved c =
    let l = c.loop-c in
    let a = c.args in
    let below : l.c-index < length l.c-items = omega arith in
    let more : l.c-index < a.n = omega (arith, length-take a.n a.chain.chips) in
    row_more a.n l.c-index a.chain.levels a.sample l.d c.dout-out.result l.c-items _ c.stepped.result more below c.dout-out.ensures c.stepped.ensures
    ∙ l.invariant

pub returns : goal.returns
returns c =
    let l = c.loop-c in
    let a = c.args in
    ap (λ (cs : List Chip). record { chips = cs; levels = a.sample })
    (row_done a.n l.c-index a.chain.levels a.sample l.d c.din-d.result a.chain.chips l.c-items l.auto.c-items c.loop-c-test.false l.invariant
    ∙ ap (λ (b : Bool). stepped_row a.n a.chain.levels a.sample b a.chain.chips) c.din-d.ensures)
