-- `settings::walk::chips` meets its contract. The invariant is `Left`: what is left of the text gives what the whole gives.
-- Assumes nothing.
use mathlib.Core.Path.{◌≡◌, ap, sym, ◌∙◌}
use native.Mathlib.Omega.{arith}
use borrow.Author.Tests.{not-true, not-false}
use lib.ListN.{length, replicate}
use lib.Seq.{length-take-le}
use Rattle.chain.specs.Chain.{most}
use Rattle.capture.proofs.EachLine.{frame_count}
use Rattle.lines.specs.Answers.{held_by}
use Rattle.settings.specs.Reading.{kiosk_by}
use Rattle.settings.proofs.Tests.{chip_six}
use Rattle.settings.proofs.Walking.{left_start, left_cut, left_refused, left_more, left_extra, left_over}
use borrow.Author.Rules.{rules}
use Rattle.settings.proofs.walk.chips.Goals as goal

pub loop-k-init : goal.loop-k-init
loop-k-init c = left_start c.args.n c.args.text.now c.args.from _ (ap (λ x. replicate most x) c.none-chips.ensures) c.requires.from_in_bounds

pub returns-then-end-text : goal.returns-then-end-text
returns-then-end-text c = c.refused.ensures ∙ ap (kiosk_by c.args.n) (left_cut c.loop-k.invariant c.loop-k-test.true c.line_end-end.result c.line_end-end.ensures c.if-end-text.true)

pub slice_bounds-frame_of-count : goal.slice_bounds-frame_of-count
slice_bounds-frame_of-count c = omega (arith, c.line_end-end.ensures)

pub slice_bounds-frame_of-start : goal.slice_bounds-frame_of-start
slice_bounds-frame_of-start c = omega (arith, c.line_end-end.ensures)

pub slice_bounds-frame_of-end : goal.slice_bounds-frame_of-end
slice_bounds-frame_of-end c = omega (arith, c.line_end-end.ensures)

pub slice_bounds-bytes-end : goal.slice_bounds-bytes-end
slice_bounds-bytes-end c =
    let f = c.frame_of-count in
    let big : length f.result.bytes ≡ 33 = search rules in
    omega (arith, frame_count c.args.text.now c.loop-k.place c.line_end-end.result f.result f.ensures)

pub slice_bounds-is_chip-end : goal.slice_bounds-is_chip-end
slice_bounds-is_chip-end c =
    let f = c.frame_of-count in
    let big : length f.result.bytes ≡ 33 = search rules in
    let few = frame_count c.args.text.now c.loop-k.place c.line_end-end.result f.result f.ensures in
    sym (length-take-le f.result.count f.result.bytes (omega arith))

pub returns-then-not-is_chip : goal.returns-then-not-is_chip
returns-then-not-is_chip c =
    c.refused-then-not-is_chip.ensures
    ∙ ap (kiosk_by c.args.n)
    (left_refused c.loop-k.invariant c.loop-k-test.true c.line_end-end.result c.line_end-end.ensures c.if-end-text.false c.frame_of-count.result c.frame_of-count.ensures
    (sym c.is_chip.ensures ∙ not-true c.is_chip.result c.if-not-is_chip.true-raw))

pub slice_bounds-bytes-end-in-loop-k : goal.slice_bounds-bytes-end-in-loop-k
slice_bounds-bytes-end-in-loop-k c =
    let f = c.frame_of-count in
    let big : length f.result.bytes ≡ 33 = search rules in
    omega (arith, frame_count c.args.text.now c.loop-k.place c.line_end-end.result f.result f.ensures)

pub slice_bounds-kept_by-end : goal.slice_bounds-kept_by-end
slice_bounds-kept_by-end c =
    let f = c.frame_of-count in
    let big : length f.result.bytes ≡ 33 = search rules in
    let few = frame_count c.args.text.now c.loop-k.place c.line_end-end.result f.result f.ensures in
    sym (length-take-le f.result.count f.result.bytes (omega arith))

pub kept_by-requires : goal.kept_by-requires
kept_by-requires c =
    let f = c.frame_of-count in
    omega (arith, chip_six c.loop-k.k (held_by f.result) (sym c.is_chip.ensures ∙ not-false c.is_chip.result c.if-not-is_chip.false-raw))

pub loop-k-preserved : goal.loop-k-preserved
loop-k-preserved c =
    left_more c.loop-k.invariant c.loop-k-test.true c.line_end-end.result c.line_end-end.ensures c.if-end-text.false c.frame_of-count.result c.frame_of-count.ensures
    (sym c.is_chip.ensures ∙ not-false c.is_chip.result c.if-not-is_chip.false-raw) c.kept_by.ensures

pub returns-then-place-text : goal.returns-then-place-text
returns-then-place-text c = c.refused-then-place-text.ensures ∙ ap (kiosk_by c.args.n) (left_extra c.loop-k.invariant c.loop-k-test.false c.if-place-text.true)

pub returns : goal.returns
returns c = ap (kiosk_by c.args.n) (left_over c.loop-k.invariant c.loop-k-test.false c.if-place-text.false)
