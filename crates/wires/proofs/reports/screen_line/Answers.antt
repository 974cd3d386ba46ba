-- `wires::reports::screen_line` meets its contract.
-- Assumes nothing.
use Rattle.std.proofs.Common.{◌≡◌, length, rules, arith}
use Rattle.std.proofs.lemmas.List.{append-nil}
use Rattle.capture.proofs.Reported.{line_put}
use Rattle.lines.proofs.Puts.{line_for_length}
use Rattle.wires.proofs.reports.screen_line.Goals as goal

pub returns : goal.returns
returns c =
    let six : length c.shining.result ≡ 6 = search rules in
    grind (arith, append-nil, line_put, line_for_length)
