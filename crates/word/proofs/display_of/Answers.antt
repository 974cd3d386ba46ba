-- `word::display_of` meets its contract: the word begins as the row of display parameters, and its low four bits are tested.
-- Assumes nothing.
use mathlib.Core.Path.{ap₂, sym, ◌∙◌}
use Prim.Native.Nat.{ℕ}
use native.Mathlib.Omega.{arith}
use lib.Dec.{eqb}
use borrow.Author.Tests.{eq-eqb, ne_eqb}
use Rattle.base.specs.Bits.{cut}
use Rattle.base.specs.Refusals.{done}
use Rattle.base.proofs.Picks.{pick_yes, pick_no}
use Rattle.word.specs.declared.Command.TheVariants.{DisplayParameters}
use Rattle.word.proofs.Rows.{fits_row}
use Rattle.word.proofs.display_of.Goals as goal

pub returns-then-field-ne0 : goal.returns-then-field-ne0
returns-then-field-ne0 c =
    let w = c.args.word in
    sym (fits_row w 12 tt c.requires ∙ pick_no _ _ (ne_eqb (cut w 0 4) 0 (omega arith)))

pub returns : goal.returns
returns c =
    let w = c.args.word in
    ap₂ (λ (m n : ℕ). done (DisplayParameters (record { mode = eqb m 1; limit = n }))) c.field-2.ensures c.field-3.ensures
    ∙ sym (fits_row w 12 tt c.requires ∙ pick_yes _ _ (eq-eqb (cut w 0 4) 0 (omega arith)))
