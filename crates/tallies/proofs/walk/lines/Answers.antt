-- `tallies::walk::lines` meets its contract. The invariant is `Walking`: what is left makes the whole.
-- Assumes nothing.
use mathlib.Core.Path.{sym, ◌∙◌}
use Rattle.tallies.proofs.Walking.{walking_over, walking_cut, walking_refused, walking_more}
use Rattle.tallies.proofs.walk.lines.Goals as goal

pub returns-then-end-text : goal.returns-then-end-text
returns-then-end-text c =
    let e = c.line_end-end in
    walking_cut c.loop-place.invariant e.result e.ensures c.loop-place-test.true c.if-end-text.true

pub returns-then-is_err : goal.returns-then-is_err
returns-then-is_err c =
    let l = c.loop-place in
    let e = c.line_end-end in
    let f = c.frame_of-frame in
    let t = c.line-took in
    walking_refused l.invariant e.result e.ensures c.if-end-text.false f.result f.ensures t.result t.ensures (sym c.is_err.ensures.value ∙ c.if-is_err.true)

pub loop-place-preserved : goal.loop-place-preserved
loop-place-preserved c =
    let l = c.loop-place in
    let e = c.line_end-end in
    let f = c.frame_of-frame in
    let t = c.line-took in
    walking_more l.invariant e.result e.ensures c.if-end-text.false f.result f.ensures t.result t.ensures (sym c.is_err.ensures.value ∙ c.if-is_err.false)

pub returns : goal.returns
returns c = walking_over c.loop-place.invariant c.loop-place-test.false
