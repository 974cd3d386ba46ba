-- `word::move_or_custom` meets its contract: the bit tested and the number matched say which row the word begins as.
-- Assumes nothing.
use mathlib.Core.Path.{ap, sym, ◌∙◌}
use Prim.Native.Nat.{ℕ}
use native.Mathlib.Omega.{arith}
use Rattle.base.specs.Refusals.{done}
use Rattle.word.specs.declared.Command.TheVariants.{CustomCharacter}
use Rattle.word.proofs.Rows.{fits_row, no_row}
use Rattle.word.proofs.move_or_custom.Goals as goal

pub returns-then-field-eq1 : goal.returns-then-field-eq1
returns-then-field-eq1 c =
    let w = c.args.word in
    ap (λ (x : ℕ). done (CustomCharacter x)) c.field-then-field-eq1.ensures ∙ sym (fits_row w 10 tt (omega arith))

pub returns-in-768 : goal.returns-in-768
returns-in-768 c =
    sym (fits_row c.args.word 6 tt (omega arith))

pub returns-in-770 : goal.returns-in-770
returns-in-770 c =
    sym (fits_row c.args.word 7 tt (omega arith))

pub returns-in-769 : goal.returns-in-769
returns-in-769 c =
    sym (fits_row c.args.word 8 tt (omega arith))

pub returns-in-771 : goal.returns-in-771
returns-in-771 c =
    sym (fits_row c.args.word 9 tt (omega arith))

pub returns-in_default : goal.returns-in_default
returns-in_default c =
    sym (no_row c.args.word (omega arith))
