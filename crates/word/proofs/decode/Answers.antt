-- `word::decode` meets its contract: the high four bits say which row the word begins as, or which function goes on.
-- Assumes nothing.
use mathlib.Core.Path.{ap, ap₂, sym, ◌∙◌}
use Prim.Native.Nat.{ℕ, ◌≤◌, zero-le}
use native.Mathlib.Omega.{arith}
use Rattle.base.specs.Refusals.{done}
use Rattle.base.proofs.Tests.{past}
use Rattle.word.specs.declared.Command.TheVariants.{BlinkByte, LoadDigit}
use Rattle.word.proofs.Rows.{fits_row, above_unlisted}
use Rattle.word.proofs.decode.Goals as goal

pub returns-then-word-gt4095 : goal.returns-then-word-gt4095
returns-then-word-gt4095 c = sym (above_unlisted c.args.word c.if-word-gt4095.true)

pub returns-in-0 : goal.returns-in-0
returns-in-0 c = sym (fits_row c.args.word 0 tt (omega arith))

pub returns-in-6 : goal.returns-in-6
returns-in-6 c =
    ap (λ (x : ℕ). done (BlinkByte x)) c.field.ensures
    ∙ sym (fits_row c.args.word 13 tt (omega arith))

pub returns-in-7 : goal.returns-in-7
returns-in-7 c = sym (fits_row c.args.word 14 tt (omega arith))

pub returns-in_default : goal.returns-in_default
returns-in_default c =
    let m = c.in_default.in_default-own.rest in
    let h : 8 ≤ c.field-kind.result =
    past 7 (past 6 (past 5 (past 4 (past 3 (past 2 (past 1 (past 0 zero-le m.0.0.0.0.0.0.0.1) m.0.0.0.0.0.0.1) m.0.0.0.0.0.1) m.0.0.0.0.1) m.0.0.0.1) m.0.0.1) m.0.1) m.1 in
    ap₂ (λ (d x : ℕ). done (LoadDigit d x)) c.field-in_default.ensures c.field-in_default-2.ensures
    ∙ sym (fits_row c.args.word 15 tt (omega arith))
