-- `wires::reports::command_lines` meets its contract: the second line comes after the first.
-- Assumes nothing.
use mathlib.Core.Path.{refl}
use mathlib.Core.List.{[], ◌∷◌}
use native.Mathlib.Omega.{arith}
use borrow.Author.Tests.{not-true, not-false}
use lib.ListN.{length-append}
use Rattle.base.specs.Pick.{pick}
use Rattle.base.proofs.Picks.{pick_yes, pick_no}
use Rattle.capture.proofs.Reported.{none_put, puts_as, line_put}
use Rattle.lines.specs.Lines.{line_for}
use Rattle.lines.proofs.Puts.{puts_room, puts_both}
use Rattle.wires.proofs.reports.command_lines.Goals as goal

pub returns-then-not-read : goal.returns-then-not-read
returns-then-not-read c =
    let s = c in
    let a = s.args in
    let p = line_for (0x42 ∷ a.first ∷ a.second ∷ []) in
    let q = pick a.read (line_for (0x43 ∷ a.key ∷ [])) [] in
    let put = line_put (0x42 ∷ a.first ∷ a.second ∷ []) refl (omega (arith, length-append p q, s.requires)) c.put_line-end.ensures in
    puts_both p q s.requires put (puts_as (pick_no _ _ (not-true a.read c.if-not-read.true-raw)) (none_put _ _))

pub returns : goal.returns
returns c =
    let s = c in
    let a = s.args in
    let p = line_for (0x42 ∷ a.first ∷ a.second ∷ []) in
    let q = pick a.read (line_for (0x43 ∷ a.key ∷ [])) [] in
    let put = line_put (0x42 ∷ a.first ∷ a.second ∷ []) refl (omega (arith, length-append p q, s.requires)) c.put_line-end.ensures in
    puts_both p q s.requires put
    (line_put (0x43 ∷ a.key ∷ []) (pick_yes _ _ (not-false a.read c.if-not-read.false-raw)) (puts_room p q s.requires put) c.put_line.ensures)
