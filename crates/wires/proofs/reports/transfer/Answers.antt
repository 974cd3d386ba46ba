-- `wires::reports::transfer` meets its contract: a transfer's bytes are obeyed by what they mean.
-- Assumes nothing.
use mathlib.Core.Path.{subst}
use mathlib.Core.List.{List}
use Prim.Native.Nat.{◌+◌, ◌≤◌}
use lib.ListN.{length}
use Rattle.capture.proofs.Reported.{none_put, puts_as}
use Rattle.wires.proofs.Reported.{by_nothing, by_bytes}
use Rattle.wires.proofs.reports.transfer.Goals as goal

pub obeyed-requires : goal.obeyed-requires
obeyed-requires c =
    let s = c in
    let a = s.args in
    let e = by_bytes a.what a.key a.transfer a.panel _ _ c.in-Some.is c.meaning_of-meaning.ensures in
    subst (λ (piece : List _). a.at + length piece ≤ length a.out.now) e s.requires

pub returns-in_default : goal.returns-in_default
returns-in_default c =
    let a = c.args in
    puts_as (by_nothing a.what a.key a.transfer a.panel c.in_default.is) (none_put a.at a.out.now)

pub returns : goal.returns
returns c =
    let a = c.args in
    puts_as
    (by_bytes a.what a.key a.transfer a.panel _ _ c.in-Some.is c.meaning_of-meaning.ensures)
    c.obeyed.ensures
