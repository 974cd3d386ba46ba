-- `streams::block` meets its contract: by the stream's kind.
-- Assumes nothing.
use Rattle.std.proofs.Common.{ap}
use Rattle.capture.proofs.Reported.{none_put}
use Rattle.streams.specs.declared.Kind.{Kind}
use Rattle.streams.specs.declared.Kind.TheVariants.{Text, Raw}
use Rattle.streams.proofs.Feeding.{writes_as, after_writes, fed_kind}
use Rattle.streams.proofs.block.Goals as goal

pub returns-in-Unknown : goal.returns-in-Unknown
returns-in-Unknown c =
    let a = c.args in
    writes_as (fed_kind a.what a.stream a.bytes.now c.in-Unknown.is) c.begin.ensures

pub returns-in-Text : goal.returns-in-Text
returns-in-Text c =
    let a = c.args in
    writes_as (fed_kind a.what a.stream a.bytes.now c.in-Text.is)
    (after_writes Text c.fed.ensures c.after.ensures.stream_value c.after.ensures.bytes_value)

pub returns-in-Raw : goal.returns-in-Raw
returns-in-Raw c =
    let a = c.args in
    writes_as (fed_kind a.what a.stream a.bytes.now c.in-Raw.is)
    (after_writes Raw c.fed-in-Raw.ensures c.after-in-Raw.ensures.stream_value c.after-in-Raw.ensures.bytes_value)

pub returns-in-Over : goal.returns-in-Over
returns-in-Over c =
    let a = c.args in
    writes_as (fed_kind a.what a.stream a.bytes.now c.in-Over.is)
    (record { stream = ap (λ (kind : Kind). record { kind = kind; state = a.stream.state }) c.in-Over.is; puts = none_put 0 a.out.now })
