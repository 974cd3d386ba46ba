-- `chain::play::stretch_of` meets its contract. The invariant: the stretch of the rest is that of the whole.
-- Assumes nothing.
use Rattle.std.proofs.Common.{◌≡◌, ◌<◌, ◌+◌, refl, ap, sym, ◌∙◌, length, length-take, get_or, Bool, arith}
use Rattle.base.proofs.Picks.{pick_yes}
use Rattle.chip.specs.Commands as C
use Rattle.chip.specs.Edges.{din}
use Rattle.chain.specs.declared.Chain.{Chain}
use Rattle.chain.specs.Chain.{stepped_row}
use Rattle.chain.proofs.Rest.{row_more, row_done}
use Rattle.chain.proofs.Steps.{stepped_rise, fall_more, row_still}
use Rattle.chain.proofs.Stretch.{ended, risen, stretch_more, stretch_step, stretch_over}
use Rattle.chain.proofs.play.stretch_of.Goals as goal
use Rattle.chain.proofs.play.stretch_of.Goals.{then-dclk_rises+else-loop-c-test, else-dclk_rises+then-dclk_falls+else-loop-c-then-dclk_falls-test, else-dclk_rises+else-dclk_falls}

pub returns-then-load_rises : goal.returns-then-load_rises
returns-then-load_rises c =
    let o = c.loop-i in
    let a = c.args in
    ap (risen (o.i + 1)) c.stepped.ensures
    ∙ sym (stretch_more a.n a.samples.now o.i (record { chips = o.chips; levels = o.was }) c.loop-i-test.true
    ∙ pick_yes _ _ (sym c.load_rises.ensures ∙ c.if-load_rises.true))
    ∙ o.invariant.1

pub loop-c-preserved : goal.loop-c-preserved
unfolding C.dout
loop-c-preserved c =
    let l = c.loop-c in
    let o = c.loop-i in
    let a = c.args in
    let s = get_or a.samples.now o.i 0 in
    let below : l.c-index < length l.c-items = omega arith in
    let more : l.c-index < a.n = omega (arith, length-take a.n o.chips) in
    let still = sym c.load_rises.ensures ∙ c.if-load_rises.false in
    let up = sym c.dclk_rises.ensures ∙ c.if-dclk_rises.true in
    row_more a.n l.c-index o.was s l.d c.shows-out.result l.c-items _ _ more below c.shows-out.ensures
    (stepped_rise o.was s l.d _ still c.shifted-c.result c.shifted-c.ensures up)
    ∙ l.invariant

pub loop-c-then-dclk_falls-preserved : goal.loop-c-then-dclk_falls-preserved
loop-c-then-dclk_falls-preserved c =
    let l = c.loop-c-then-dclk_falls in
    let o = c.loop-i in
    let a = c.args in
    let s = get_or a.samples.now o.i 0 in
    let below : l.c-index < length l.c-items = omega arith in
    let more : l.c-index < a.n = omega (arith, length-take a.n o.chips) in
    let still = sym c.load_rises.ensures ∙ c.if-load_rises.false in
    let down = sym c.dclk_falls.ensures ∙ c.if-dclk_falls.true in
    λ b. fall_more a.n l.c-index o.was s b l.c-items _ _ _ still down more below c.lowest_bit-c.ensures c.moved_on-c.ensures ∙ l.invariant b

pub loop-i-preserved : goal.loop-i-preserved
loop-i-preserved c =
    let o = c.loop-i in
    let a = c.args in
    let ss = a.samples.now in
    let s = get_or ss o.i 0 in
    let still = sym c.load_rises.ensures ∙ c.if-load_rises.false in
    let row : c.if-dclk_rises.chips ≡ stepped_row a.n o.was s (din s) o.chips =
    elim c.if-dclk_rises.branch [
      | then-dclk_rises+else-loop-c-test w ↦
          w.chips-is ∙ row_done a.n w.loop-c.c-index o.was s w.loop-c.d w.din-d.result o.chips w.loop-c.c-items w.loop-c.auto.c-items w.loop-c-test.false w.loop-c.invariant
          ∙ ap (λ (b : Bool). stepped_row a.n o.was s b o.chips) w.din-d.ensures
      | else-dclk_rises+then-dclk_falls+else-loop-c-then-dclk_falls-test w ↦
          let l = w.loop-c-then-dclk_falls in
          w.chips-is ∙ row_done a.n l.c-index o.was s (din s) (din s) o.chips l.c-items l.auto.c-items w.loop-c-then-dclk_falls-test.false (l.invariant (din s))
      | else-dclk_rises+else-dclk_falls w ↦
          w.chips-is ∙ sym (row_still a.n o.was s (din s) o.chips still (sym c.dclk_rises.ensures ∙ w.if-dclk_rises.false) (sym w.dclk_falls.ensures ∙ w.if-dclk_falls.false))
    ] in
    (omega arith, stretch_step a.n ss o.i (record { chips = o.chips; levels = o.was }) (record { chips = c.if-dclk_rises.chips; levels = s }) c.loop-i-test.true still row refl ∙ o.invariant.1)

pub returns : goal.returns
returns c =
    let o = c.loop-i in
    let a = c.args in
    let ch : Chain = record { chips = o.chips; levels = o.was } in
    let stop : c.max.result ≡ o.i = omega arith in
    ap (λ m. ended m ch) stop ∙ sym (stretch_over a.n a.samples.now o.i ch c.loop-i-test.false) ∙ o.invariant.1
