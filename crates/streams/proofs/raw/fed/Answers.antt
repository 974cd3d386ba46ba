-- `streams::raw::fed` meets its contract. The invariant is `Walked`: what is left of the block steps to what the whole steps to.
-- Assumes nothing.
use Rattle.std.proofs.Common.{sym, ◌∙◌, rules}
use Rattle.streams.proofs.Goes.{goes_over}
use Rattle.streams.proofs.RawLoop.{walked_start, run_within, run_counted, run_some, run_room, byte_room, walked_run, walked_byte, walked_stop}
use Rattle.streams.proofs.raw.fed.Goals as goal

pub loop-i-init : goal.loop-i-init
loop-i-init c =
    let a = c.args in
    let p = c.requires in
    walked_start a.what a.state a.bytes.now a.out.now p.bytes_len_bound p.in_bounds

pub run-ran-requires : goal.run-ran-requires
run-ran-requires c =
    let l = c.loop-i in
    let s = c.starts_run in
    let starts = sym s.ensures ∙ c.if-starts_run.true in
    let more = c.loop-i-test.true in
    record { n_value = run_counted l.invariant more starts; from_in_bounds = l.invariant.goes.within; bound = run_some l.invariant more starts; bytes_in_bounds = run_room l.invariant more starts }

pub overflow_add-i : goal.overflow_add-i
overflow_add-i c =
    let l = c.loop-i in
    let r = c.run-ran in
    search (rules, run_within l.invariant c.loop-i-test.true r.ensures)

pub loop-i-preserved-then-starts_run : goal.loop-i-preserved-then-starts_run
loop-i-preserved-then-starts_run c =
    let l = c.loop-i in
    let s = c.starts_run in
    walked_run l.invariant c.loop-i-test.true (sym s.ensures ∙ c.if-starts_run.true) c.run-ran.ensures

pub one_byte-step-requires : goal.one_byte-step-requires
one_byte-step-requires c =
    let l = c.loop-i in
    let s = c.starts_run in
    record { b_value = sym s.ensures ∙ c.if-starts_run.false; at_in_bounds = byte_room l.invariant c.loop-i-test.true }

pub returns-then-step : goal.returns-then-step
returns-then-step c = walked_stop c.loop-i.invariant c.loop-i-test.true c.one_byte-step.ensures c.if-step.true

pub loop-i-preserved : goal.loop-i-preserved
loop-i-preserved c = walked_byte c.loop-i.invariant c.loop-i-test.true c.one_byte-step.ensures c.if-step.false

pub returns : goal.returns
returns c = goes_over _ c.loop-i.invariant.goes c.loop-i-test.false
