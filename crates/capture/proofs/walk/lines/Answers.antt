-- `capture::walk::lines` meets its contract. The invariant is `Walks`: what is left of the text writes what is left of the output,
-- and ends as the whole does.
-- Assumes nothing.
use Rattle.std.proofs.Common.{rules}
use borrow.Author.Tests.{not-true, not-false}
use Rattle.capture.proofs.Walked.{line_reader, lines_walked, ends_walked}
use Rattle.capture.proofs.Walks.{walks_start, walks_over, cut_room, walks_cut, walks_room, walks_refusal_room, walks_refused, walks_more}
use Rattle.capture.proofs.walk.lines.Goals as goal

pub loop-place-init : goal.loop-place-init
loop-place-init c = search (rules, walks_start, lines_walked, ends_walked)

pub wrong_line-requires : goal.wrong_line-requires
wrong_line-requires c = search (rules, cut_room, line_reader)

pub returns-then-end-text : goal.returns-then-end-text
returns-then-end-text c = search (rules, walks_cut, line_reader)

pub line-took-requires-clause-frame_in_bounds : goal.line-took-requires-clause-frame_in_bounds
line-took-requires-clause-frame_in_bounds c =
    let e = c.line_end-end in
    let f = c.frame_of-frame in
    walks_room (line_reader _ _) c.loop-place.invariant e.result e.ensures c.if-end-text.false f.result f.ensures

pub wrong_line-requires-then-not-took : goal.wrong_line-requires-then-not-took
wrong_line-requires-then-not-took c =
    let e = c.line_end-end in
    let f = c.frame_of-frame in
    let t = c.line-took in
    walks_refusal_room (line_reader _ _) c.loop-place.invariant e.result e.ensures c.if-end-text.false f.result f.ensures
    t.ensures.taken t.ensures.puts (not-true t.result.taken c.if-not-took.true)

pub returns-then-not-took : goal.returns-then-not-took
returns-then-not-took c =
    let e = c.line_end-end in
    let f = c.frame_of-frame in
    let t = c.line-took in
    walks_refused (line_reader _ _) c.loop-place.invariant e.result e.ensures c.if-end-text.false f.result f.ensures
    t.ensures.taken t.ensures.puts (not-true t.result.taken c.if-not-took.true) c.wrong_line-then-not-took.ensures

pub loop-place-preserved : goal.loop-place-preserved
loop-place-preserved c =
    let e = c.line_end-end in
    let f = c.frame_of-frame in
    let t = c.line-took in
    walks_more (line_reader _ _) c.loop-place.invariant e.result e.ensures c.if-end-text.false f.result f.ensures
    t.ensures.taken t.ensures.puts (not-false t.result.taken c.if-not-took.false) _ t.ensures.chain

pub returns : goal.returns
returns c = search (rules, walks_over, line_reader)
