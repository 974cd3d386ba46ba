-- `chip::scans::result` meets its contract: of the lowest SEG with a contact the lowest DIG is the smallest closed address.
-- Assumes nothing.
use mathlib.Core.Path.{ap, sym, ◌∙◌}
use Rattle.chip.specs.Masks.{lowest_in}
use Rattle.chip.proofs.Rows.{row_none, row_lowest}
use Rattle.chip.proofs.scans.result.Goals as goal

pub returns-then-segs-eq0 : goal.returns-then-segs-eq0
returns-then-segs-eq0 c =
    sym (row_none c.args.bytes _ c.packed-contacts.ensures (sym c.closed_segs-segs.ensures ∙ c.if-segs-eq0.true))

pub returns-else-segs-eq0 : goal.returns-else-segs-eq0
returns-else-segs-eq0 c =
    let b = c in
    c.lowest.ensures
    ∙ ap (lowest_in b.packed-contacts.result) b.closed_segs-segs.ensures
    ∙ sym (row_lowest b.args.bytes _ b.packed-contacts.ensures (λ none. c.if-segs-eq0.false (b.closed_segs-segs.ensures ∙ none)))
