-- `zhaqsumir::commands::command_from` meets its contract: the number matched is the kind.
-- Assumes nothing.
use mathlib.Core.Path.{refl}
use Prim.Native.Nat.{zero-le}
use native.Mathlib.Omega.{arith}
use Rattle.base.proofs.Tests.{past}
use Rattle.word.specs.declared.Command.TheVariants.{BarLevel, SegmentClear, SegmentSet, CustomCharacter, BlinkByte}
use Rattle.zhaqsumir.specs.Commands.{command_from}
use Rattle.zhaqsumir.proofs.Fields.{of_kind, of_field, no_such_kind}
use Rattle.zhaqsumir.proofs.commands.command_from.Goals as goal

pub returns-in-0 : goal.returns-in-0
unfolding command_from
returns-in-0 c =
    let a = c.args in
    of_kind 0 a.kind a.a a.b a.c a.d a.e (omega arith) refl

pub returns-in-1 : goal.returns-in-1
unfolding command_from
returns-in-1 c =
    let a = c.args in
    of_kind 1 a.kind a.a a.b a.c a.d a.e (omega arith) (of_field BarLevel a.a (omega arith) c.low.ensures c.one_field.ensures)

pub returns-in-2 : goal.returns-in-2
unfolding command_from
returns-in-2 c =
    let a = c.args in
    of_kind 2 a.kind a.a a.b a.c a.d a.e (omega arith) (of_field SegmentClear a.a (omega arith) c.low-in-2.ensures c.one_field-in-2.ensures)

pub returns-in-3 : goal.returns-in-3
unfolding command_from
returns-in-3 c =
    let a = c.args in
    of_kind 3 a.kind a.a a.b a.c a.d a.e (omega arith) (of_field SegmentSet a.a (omega arith) c.low-in-3.ensures c.one_field-in-3.ensures)

pub returns-in-4 : goal.returns-in-4
unfolding command_from
returns-in-4 c =
    let a = c.args in
    of_kind 4 a.kind a.a a.b a.c a.d a.e (omega arith) refl

pub returns-in-5 : goal.returns-in-5
unfolding command_from
returns-in-5 c =
    let a = c.args in
    of_kind 5 a.kind a.a a.b a.c a.d a.e (omega arith) refl

pub returns-in-6 : goal.returns-in-6
unfolding command_from
returns-in-6 c =
    let a = c.args in
    of_kind 6 a.kind a.a a.b a.c a.d a.e (omega arith) refl

pub returns-in-7 : goal.returns-in-7
unfolding command_from
returns-in-7 c =
    let a = c.args in
    of_kind 7 a.kind a.a a.b a.c a.d a.e (omega arith) refl

pub returns-in-8 : goal.returns-in-8
unfolding command_from
returns-in-8 c =
    let a = c.args in
    of_kind 8 a.kind a.a a.b a.c a.d a.e (omega arith) refl

pub returns-in-9 : goal.returns-in-9
unfolding command_from
returns-in-9 c =
    let a = c.args in
    of_kind 9 a.kind a.a a.b a.c a.d a.e (omega arith) refl

pub returns-in-10 : goal.returns-in-10
unfolding command_from
returns-in-10 c =
    let a = c.args in
    of_kind 10 a.kind a.a a.b a.c a.d a.e (omega arith) (of_field CustomCharacter a.a (omega arith) c.low-in-10.ensures c.one_field-in-10.ensures)

pub returns-in-11 : goal.returns-in-11
unfolding command_from
returns-in-11 c =
    let a = c.args in
    of_kind 11 a.kind a.a a.b a.c a.d a.e (omega arith) c.system_from.ensures

pub returns-in-12 : goal.returns-in-12
unfolding command_from
returns-in-12 c =
    let a = c.args in
    of_kind 12 a.kind a.a a.b a.c a.d a.e (omega arith) c.display_from.ensures

pub returns-in-13 : goal.returns-in-13
unfolding command_from
returns-in-13 c =
    let a = c.args in
    of_kind 13 a.kind a.a a.b a.c a.d a.e (omega arith) (of_field BlinkByte a.a (omega arith) c.low-in-13.ensures c.one_field-in-13.ensures)

pub returns-in-14 : goal.returns-in-14
unfolding command_from
returns-in-14 c =
    let a = c.args in
    of_kind 14 a.kind a.a a.b a.c a.d a.e (omega arith) refl

pub returns-in-15 : goal.returns-in-15
unfolding command_from
returns-in-15 c =
    let a = c.args in
    of_kind 15 a.kind a.a a.b a.c a.d a.e (omega arith) c.digit_from.ensures

pub returns-in_default : goal.returns-in_default
returns-in_default c =
    let a = c.args in
    let m = c.in_default.in_default-own.rest in
    no_such_kind a.kind a.a a.b a.c a.d a.e
    (past 15 (past 14 (past 13 (past 12 (past 11 (past 10 (past 9 (past 8 (past 7 (past 6 (past 5 (past 4 (past 3 (past 2 (past 1 (past 0 zero-le m.0.0.0.0.0.0.0.0.0.0.0.0.0.0.0.1) m.0.0.0.0.0.0.0.0.0.0.0.0.0.0.1) m.0.0.0.0.0.0.0.0.0.0.0.0.0.1) m.0.0.0.0.0.0.0.0.0.0.0.0.1) m.0.0.0.0.0.0.0.0.0.0.0.1) m.0.0.0.0.0.0.0.0.0.0.1) m.0.0.0.0.0.0.0.0.0.1) m.0.0.0.0.0.0.0.0.1) m.0.0.0.0.0.0.0.1) m.0.0.0.0.0.0.1) m.0.0.0.0.0.1) m.0.0.0.0.1) m.0.0.0.1) m.0.0.1) m.0.1) m.1)
