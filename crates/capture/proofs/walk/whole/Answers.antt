-- `capture::walk::whole` meets its contract: a text too long, one whose first line is refused, and the lines after the first.
-- Assumes nothing.
use Rattle.std.proofs.Common.{refl, arith, rules, length}
use Rattle.lines.proofs.Puts.{put_whole}
use Rattle.capture.proofs.Reported.{refusal_length}
use Rattle.capture.proofs.Firsts.{long_out_lem, none_out, replays_so, piece_room, begun_more, begun_few, begun_out}
use Rattle.capture.proofs.walk.whole.Goals as goal

pub returns-then-text-gt-LONGEST : goal.returns-then-text-gt-LONGEST
returns-then-text-gt-LONGEST c =
    let a = c.args in
    let out = long_out_lem a.what a.text.now c.if-text-gt-LONGEST.true in
    let room = piece_room (length a.out.now) out.0 c.requires in
    replays_so _ out (record { puts = put_whole (omega (arith, room)) c.refusal.ensures; answer = refl })

pub wrong_line-requires : goal.wrong_line-requires
wrong_line-requires c =
    let a = c.args in
    let none = none_out a.what a.text.now c.if-text-gt-LONGEST.false (search rules) in
    omega (arith, piece_room (length a.out.now) none.0 c.requires, refusal_length 10 1)

pub returns-in_default : goal.returns-in_default
returns-in_default c = search (rules, replays_so, none_out)

pub overflow_add-end : goal.overflow_add-end
overflow_add-end c = grind (arith, begun_more)

pub lines-requires-clause-n_bound : goal.lines-requires-clause-n_bound
lines-requires-clause-n_bound c = search (rules, begun_few)

pub lines-requires-clause-from_in_bounds : goal.lines-requires-clause-from_in_bounds
lines-requires-clause-from_in_bounds c = grind (arith, begun_more)

pub lines-requires-clause-text_in_bounds : goal.lines-requires-clause-text_in_bounds
lines-requires-clause-text_in_bounds c = grind (arith, begun_out)

pub returns : goal.returns
returns c = search (rules, replays_so, begun_out)
