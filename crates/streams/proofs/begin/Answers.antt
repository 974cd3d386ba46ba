-- `streams::begin` meets its contract: the first byte tells the form.
-- Assumes nothing.
use Rattle.std.proofs.Common.{◌≢◌, length, sym, ap, ◌∙◌, arith}
use borrow.Author.Tests.{eqb-true, eqb-false}
use Rattle.streams.specs.declared.Kind.TheVariants.{Text, Raw}
use Rattle.streams.specs.Steps.{after, text_byte, raw_byte, steps}
use Rattle.streams.proofs.Feeding.{writes_as, none_written, after_writes, begin_none, begin_raw, begin_text}
use Rattle.streams.proofs.begin.Goals as goal

pub returns-then-is_empty : goal.returns-then-is_empty
returns-then-is_empty c =
    let a = c.args in
    let none = eqb-true (length a.bytes.now) 0 (sym c.is_empty.ensures ∙ c.if-is_empty.true) in
    writes_as (begin_none a.what a.state a.bytes.now (omega arith)) (none_written _ a.out.now)

pub returns-then-bytes-eq0 : goal.returns-then-bytes-eq0
returns-then-bytes-eq0 c =
    let a = c.args in
    let some : length a.bytes.now ≢ 0 = eqb-false (length a.bytes.now) 0 (sym c.is_empty.ensures ∙ c.if-is_empty.false) in
    writes_as
    (begin_raw a.what a.state a.bytes.now (omega arith) c.if-bytes-eq0.true
    ∙ ap (λ s. after Raw (steps (raw_byte a.what) s a.bytes.now)) (sym c.placed_at.ensures))
    (after_writes Raw c.fed.ensures c.after.ensures.stream_value c.after.ensures.bytes_value)

pub returns : goal.returns
returns c =
    let a = c.args in
    let some : length a.bytes.now ≢ 0 = eqb-false (length a.bytes.now) 0 (sym c.is_empty.ensures ∙ c.if-is_empty.false) in
    writes_as
    (begin_text a.what a.state a.bytes.now (omega arith) c.if-bytes-eq0.false
    ∙ ap (λ s. after Text (steps (text_byte a.what) s a.bytes.now)) (sym c.placed_at-2.ensures))
    (after_writes Text c.fed-2.ensures c.after-2.ensures.stream_value c.after-2.ensures.bytes_value)
