-- `streams::text::fed` meets its contract. The invariant is `Lines`: what is left of the block steps to what the whole steps to.
-- Assumes nothing.
use Rattle.std.proofs.Common.{drop, arith, length-drop}
use Rattle.lines.proofs.Lines.{line_length_le}
use Rattle.streams.proofs.Goes.{goes_over}
use Rattle.streams.proofs.TextLoop.{lines_start, lines_room, lines_many, lines_kept, lines_more, lines_stop}
use Rattle.streams.proofs.text.fed.Goals as goal

pub loop-i-init : goal.loop-i-init
loop-i-init c =
    let a = c.args in
    let p = c.requires in
    lines_start a.what a.state a.bytes.now a.out.now p.bytes_len_bound p.in_bounds

pub refused-requires : goal.refused-requires
refused-requires c = omega (arith, lines_room c.loop-i.invariant)

pub returns-then-next-ge4294967296 : goal.returns-then-next-ge4294967296
returns-then-next-ge4294967296 c = lines_many c.loop-i.invariant c.loop-i-test.true c.if-next-ge4294967296.true c.refused.ensures

pub slice_bounds-grown-end : goal.slice_bounds-grown-end
slice_bounds-grown-end c =
    let l = c.loop-i in
    let bytes = c.args.bytes.now in
    omega (arith, c.line_end-end.ensures, line_length_le (drop l.i bytes), length-drop l.i bytes, l.invariant.goes.within)

pub returns-then-end-bytes : goal.returns-then-end-bytes
returns-then-end-bytes c =
    let e = c.line_end-end in
    lines_kept c.loop-i.invariant c.if-next-ge4294967296.false e.result e.ensures c.grown-next.ensures c.loop-i-test.true c.if-end-bytes.true

pub ended-step-requires : goal.ended-step-requires
ended-step-requires c = record { place_bound = c.if-next-ge4294967296.false; line_room_in_bounds = lines_room c.loop-i.invariant }

pub returns-then-step : goal.returns-then-step
returns-then-step c =
    let e = c.line_end-end in
    lines_stop c.loop-i.invariant c.if-next-ge4294967296.false e.result e.ensures c.grown-next.ensures c.if-end-bytes.false c.ended-step.ensures c.if-step.true

pub loop-i-preserved : goal.loop-i-preserved
loop-i-preserved c =
    let e = c.line_end-end in
    lines_more c.loop-i.invariant c.if-next-ge4294967296.false e.result e.ensures c.grown-next.ensures c.if-end-bytes.false c.ended-step.ensures c.if-step.false

pub returns : goal.returns
returns c = goes_over _ c.loop-i.invariant.goes c.loop-i-test.false
