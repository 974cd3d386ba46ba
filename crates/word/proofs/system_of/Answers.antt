-- `word::system_of` meets its contract: bits 7 and 6 say whether the word begins as the row of system parameters, and bit 2 is tested.
-- Assumes nothing.
use mathlib.Core.Path.{sym, ◌∙◌}
use native.Mathlib.Omega.{arith}
use borrow.Author.Tests.{eq-eqb, ne_eqb}
use Rattle.base.specs.Bits.{cut}
use Rattle.base.proofs.Cuts.{cut_deeper}
use Rattle.base.proofs.Picks.{pick_yes, pick_no}
use Rattle.word.proofs.Rows.{fits_row, no_row}
use Rattle.word.proofs.system_of.Goals.{then-field-ne0-via-then-field-ne0, then-field-ne0-via-else-field-ne0+then-field-ne0-2}
use Rattle.word.proofs.system_of.Goals as goal

pub returns-then-field-ne0 : goal.returns-then-field-ne0
returns-then-field-ne0 c =
    let w = c.args.word in
    elim c.then-field-ne0.branch [
      | then-field-ne0-via-then-field-ne0 h ↦ sym (no_row w (omega arith))
      | then-field-ne0-via-else-field-ne0+then-field-ne0-2 h ↦
          sym (fits_row w 11 tt (omega (arith, cut_deeper w 6 2)) ∙ pick_yes _ _ (eq-eqb (cut w 2 1) 1 (omega arith)))
    ]

pub returns : goal.returns
returns c =
    let w = c.args.word in
    simp (c.field-6.ensures, c.field-5.ensures, c.field-4.ensures, c.field-3.ensures, c.field-2.ensures)
    (sym (fits_row w 11 tt (omega (arith, cut_deeper w 6 2)) ∙ pick_no _ _ (ne_eqb (cut w 2 1) 1 (omega arith))))
