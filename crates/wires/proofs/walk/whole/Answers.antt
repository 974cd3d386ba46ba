-- `wires::walk::whole` meets its contract: by its length and its first line a text is refused, or its lines follow the first.
-- Assumes nothing.
use mathlib.Core.Path.{refl, sym, ◌∙◌}
use native.Mathlib.Omega.{arith}
use lib.ListN.{length}
use Rattle.capture.proofs.Firsts.{piece_room}
use Rattle.capture.proofs.Reported.{refusal_length}
use Rattle.lines.proofs.Puts.{put_whole}
use Rattle.wires.proofs.Firsts.{long_out_lem, none_out, replays_so, begun_more, begun_out}
use Rattle.wires.proofs.walk.whole.Goals as goal

pub returns-then-text-gt-LONGEST : goal.returns-then-text-gt-LONGEST
returns-then-text-gt-LONGEST c =
    let s = c in
    let a = s.args in
    let out = long_out_lem a.what a.text.now c.if-text-gt-LONGEST.true in
    let room = piece_room (length a.out.now) out.0 s.requires in
    replays_so _ out (record { puts = put_whole (omega (arith, room)) c.refusal.ensures; answer = refl })

pub wrong_line-requires : goal.wrong_line-requires
wrong_line-requires c =
    let s = c in
    let a = s.args in
    let e = none_out a.what a.text.now c.if-text-gt-LONGEST.false (sym c.first_of.ensures ∙ c.in_default.is) in
    omega (arith, piece_room (length a.out.now) e.0 s.requires, refusal_length 10 1)

pub returns-in_default : goal.returns-in_default
returns-in_default c =
    let a = c.args in
    let e = none_out a.what a.text.now c.if-text-gt-LONGEST.false (sym c.first_of.ensures ∙ c.in_default.is) in
    replays_so _ e c.wrong_line.ensures

pub overflow_add-end : goal.overflow_add-end
overflow_add-end c =
    let a = c.args in
    let end = c.line_end-end in
    omega (arith, begun_more a.text.now end.result c.in-Some.first end.ensures (sym c.in-Some.is ∙ c.first_of.ensures))

pub lines-requires : goal.lines-requires
lines-requires c =
    let s = c in
    let a = s.args in
    let short = c.if-text-gt-LONGEST.false in
    let end = c.line_end-end in
    let on = c.power_on-panel in
    let first = c.in-Some.first in
    let same = sym c.in-Some.is ∙ c.first_of.ensures in
    let more = begun_more a.text.now end.result first end.ensures same in
    let out = begun_out a.text.now end.result first end.ensures same a.what on.result on.ensures short in
    record { from_in_bounds = (omega (arith, more), short); text_in_bounds = piece_room (length a.out.now) out.0 s.requires }

pub returns : goal.returns
returns c =
    let a = c.args in
    let end = c.line_end-end in
    let on = c.power_on-panel in
    let first = c.in-Some.first in
    let same = sym c.in-Some.is ∙ c.first_of.ensures in
    replays_so _
    (begun_out a.text.now end.result first end.ensures same a.what on.result on.ensures c.if-text-gt-LONGEST.false)
    c.lines.ensures
