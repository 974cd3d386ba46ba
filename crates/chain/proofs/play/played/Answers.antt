-- `chain::play::played` meets its contract. The invariant: the rest, played from here, is the whole played.
-- Assumes nothing.
use mathlib.Core.Path.{sym, ◌∙◌}
use Rattle.chain.proofs.Rest.{play_over}
use Rattle.chain.proofs.Stretch.{stretch_fewer, stretch_plays}
use Rattle.chain.proofs.play.played.Goals as goal

pub loop-i-smaller : goal.loop-i-smaller
loop-i-smaller c =
    let o = c.loop-i in
    let a = c.args in
    stretch_fewer a.n a.samples.now o.i o.next c.to_next_rise-part.result c.to_next_rise-part.ensures c.loop-i-test.true

pub loop-i-preserved : goal.loop-i-preserved
loop-i-preserved c =
    let o = c.loop-i in
    let a = c.args in
    stretch_plays a.n a.samples.now o.i o.next c.to_next_rise-part.result c.to_next_rise-part.ensures ∙ o.invariant

pub returns : goal.returns
returns c =
    let o = c.loop-i in
    let a = c.args in
    sym (play_over a.n a.samples.now o.i o.next c.loop-i-test.false) ∙ o.invariant
