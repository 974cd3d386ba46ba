-- `wires::reports::obeyed` meets its contract: each of its arms writes what the definition has for that case.
-- Assumes nothing.
use mathlib.Core.Path.{◌≡◌, ap, subst}
use mathlib.Core.List.{List}
use Prim.Native.Nat.{◌+◌, ◌≤◌}
use native.Mathlib.Omega.{arith}
use lib.ListN.{length}
use Rattle.capture.proofs.Reported.{none_put, puts_as}
use Rattle.wires.proofs.Reported.{by_none, by_commands, by_screen}
use Rattle.wires.proofs.Room.{screen_length}
use borrow.Author.Rules.{rules}
use Rattle.wires.proofs.reports.obeyed.Goals as goal

pub command_lines-requires : goal.command_lines-requires
command_lines-requires c =
    let s = c in
    let a = s.args in
    let e = by_commands a.what a.key a.first a.second a.meaning a.panel c.in-Commands.is c.in-Some.field-0 c.in-Some.is c.is_read-read.ensures in
    subst (λ (piece : List _). a.at + length piece ≤ length a.out.now) e s.requires

pub screen_line-requires : goal.screen_line-requires
screen_line-requires c =
    let s = c in
    let a = s.args in
    let e = by_screen a.what a.key a.first a.second a.meaning a.panel c.in-Screen.is c.in-Some.field-0 c.in-Some.is in
    let six : length a.panel.digits ≡ 6 = search rules in
    omega (arith, ap length e, screen_length a.panel six, s.requires)

pub returns-in-None : goal.returns-in-None
returns-in-None c =
    let a = c.args in
    puts_as (by_none a.what a.key a.first a.second a.meaning a.panel c.in-None.is) (none_put a.at a.out.now)

pub returns-in-Commands : goal.returns-in-Commands
returns-in-Commands c =
    let a = c.args in
    puts_as
    (by_commands a.what a.key a.first a.second a.meaning a.panel c.in-Commands.is c.in-Some.field-0 c.in-Some.is c.is_read-read.ensures)
    c.command_lines.ensures

pub returns-in-Screen : goal.returns-in-Screen
returns-in-Screen c =
    let a = c.args in
    puts_as
    (by_screen a.what a.key a.first a.second a.meaning a.panel c.in-Screen.is c.in-Some.field-0 c.in-Some.is)
    c.screen_line.ensures
