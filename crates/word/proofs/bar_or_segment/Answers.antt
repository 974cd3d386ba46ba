-- `word::bar_or_segment` meets its contract: the tests that led to each answer say which row the word begins as.
-- Assumes nothing.
use mathlib.Core.Path.{ap, sym, ◌∙◌}
use Prim.Native.Nat.{ℕ}
use native.Mathlib.Omega.{arith}
use Rattle.base.proofs.Cuts.{cut_deeper}
use Rattle.base.specs.Refusals.{done}
use Rattle.word.specs.declared.Command.TheVariants.{BarLevel, SegmentClear, SegmentSet}
use Rattle.word.proofs.Rows.{fits_row}
use Rattle.word.proofs.bar_or_segment.Goals as goal

pub returns-then-field-eq0 : goal.returns-then-field-eq0
returns-then-field-eq0 c =
    let w = c.args.word in
    ap (λ (x : ℕ). done (BarLevel x)) c.field-then-field-eq0.ensures ∙ sym (fits_row w 1 tt (omega arith))

pub returns-then-field-eq0-2 : goal.returns-then-field-eq0-2
returns-then-field-eq0-2 c =
    let w = c.args.word in
    ap (λ (x : ℕ). done (SegmentClear x)) c.field-addr.ensures
    ∙ sym (fits_row w 2 tt (omega (arith, cut_deeper w 7 1, cut_deeper w 6 1)))

pub returns-else-field-eq0-2 : goal.returns-else-field-eq0-2
returns-else-field-eq0-2 c =
    let w = c.args.word in
    ap (λ (x : ℕ). done (SegmentSet x)) c.field-addr.ensures
    ∙ sym (fits_row w 3 tt (omega (arith, cut_deeper w 7 1, cut_deeper w 6 1)))
