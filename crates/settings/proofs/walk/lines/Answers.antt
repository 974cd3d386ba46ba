-- `settings::walk::lines` meets its contract: the first line, and then the chips'.
-- Assumes nothing.
use mathlib.Core.Path.{◌≡◌, refl, sym, ◌∙◌}
use native.Mathlib.Omega.{arith}
use borrow.Author.Tests.{not-true, not-false}
use lib.ListN.{length, take}
use lib.Seq.{length-take-le}
use Rattle.lines.proofs.Frames.{frame_holds}
use Rattle.settings.proofs.Walking.{lines_missing, lines_other, lines_first, lines_few}
use borrow.Author.Rules.{rules}
use Rattle.settings.proofs.walk.lines.Goals as goal

pub returns-then-end-text : goal.returns-then-end-text
returns-then-end-text c = c.refused.ensures ∙ lines_missing c.args.text.now c.line_end-end.result c.line_end-end.ensures c.if-end-text.true

pub slice_bounds-frame_of-end : goal.slice_bounds-frame_of-end
slice_bounds-frame_of-end c = sym (length-take-le c.line_end-end.result c.args.text.now (omega arith))

pub slice_bounds-bytes-end : goal.slice_bounds-bytes-end
slice_bounds-bytes-end c =
    let f = c.frame_of-count in
    let big : length f.result.bytes ≡ 33 = search rules in
    let holds = frame_holds (take c.line_end-end.result c.args.text.now) f.ensures in
    omega (arith, holds.count, holds.room)

pub slice_bounds-is_first-end : goal.slice_bounds-is_first-end
slice_bounds-is_first-end c =
    let f = c.frame_of-count in
    let big : length f.result.bytes ≡ 33 = search rules in
    let holds = frame_holds (take c.line_end-end.result c.args.text.now) f.ensures in
    sym (length-take-le f.result.count f.result.bytes (omega (arith, holds.count, holds.room)))

pub returns-then-not-is_first : goal.returns-then-not-is_first
returns-then-not-is_first c =
    c.refused-then-not-is_first.ensures
    ∙ lines_other c.args.text.now c.line_end-end.result c.line_end-end.ensures c.if-end-text.false c.frame_of-count.result c.frame_of-count.ensures
    (sym c.is_first.ensures ∙ not-true c.is_first.result c.if-not-is_first.true-raw)

pub chips-requires : goal.chips-requires
chips-requires c =
    let few = lines_few c.args.text.now c.line_end-end.result c.line_end-end.ensures c.if-end-text.false c.frame_of-count.result c.frame_of-count.ensures
    (sym c.is_first.ensures ∙ not-false c.is_first.result c.if-not-is_first.false-raw) in
    record { n_le_most = few; from_in_bounds = omega arith }

pub returns : goal.returns
returns c =
    c.chips.ensures
    ∙ lines_first c.args.text.now c.line_end-end.result c.line_end-end.ensures c.if-end-text.false c.frame_of-count.result c.frame_of-count.ensures
    (sym c.is_first.ensures ∙ not-false c.is_first.result c.if-not-is_first.false-raw) refl
