-- `streams::finish` meets its contract: by the stream's kind.
-- Assumes nothing.
use Rattle.std.proofs.Common.{◌≡◌, length, ap, arith, rules}
use Rattle.lines.proofs.Puts.{put_whole}
use Rattle.capture.proofs.Reported.{none_put, refusal_length}
use Rattle.streams.proofs.Feeding.{end_room, finishes_so, end_kind}
use Rattle.streams.proofs.finish.Goals as goal

pub returns-in-Unknown : goal.returns-in-Unknown
returns-in-Unknown c =
    let a = c.args in
    let all : length a.out.now ≡ 777920 = search rules in
    let so = finishes_so a.stream (end_kind a.stream c.in-Unknown.is) (omega (arith, end_room a.stream)) (put_whole (omega (arith, refusal_length 10 1)) c.refusal.ensures) in
    record { finishes = so.0; counts = so.1 }

pub returns-in-Text : goal.returns-in-Text
returns-in-Text c =
    let a = c.args in
    let all : length a.out.now ≡ 777920 = search rules in
    let so = finishes_so a.stream (end_kind a.stream c.in-Text.is) (omega (arith, end_room a.stream)) c.text_end.ensures in
    record { finishes = so.0; counts = so.1 }

pub returns-in-Raw : goal.returns-in-Raw
returns-in-Raw c =
    let a = c.args in
    let all : length a.out.now ≡ 777920 = search rules in
    let so = finishes_so a.stream (end_kind a.stream c.in-Raw.is) (omega (arith, end_room a.stream)) c.raw_end.ensures in
    record { finishes = so.0; counts = so.1 }

pub returns-in-Over : goal.returns-in-Over
returns-in-Over c =
    let a = c.args in
    let over = end_kind a.stream c.in-Over.is in
    let so = finishes_so a.stream over (omega (arith, ap length over)) (none_put 0 a.out.now) in
    record { finishes = so.0; counts = so.1 }
