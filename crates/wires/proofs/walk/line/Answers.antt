-- `wires::walk::line` meets its contract: a line is taken as `is_samples` says.
-- Assumes nothing.
use mathlib.Core.Path.{◌≡◌, sym, ◌∙◌}
use native.Mathlib.Omega.{arith}
use borrow.Author.Tests.{not-true, not-false}
use lib.ListN.{length}
use lib.Seq.{length-take-le}
use Rattle.wires.proofs.Forms.{taken_as, room_as, not_taken, held_some, held_samples, held_other}
use borrow.Author.Rules.{rules}
use Rattle.wires.proofs.walk.line.Goals as goal

pub slice_bounds-bytes-end : goal.slice_bounds-bytes-end
slice_bounds-bytes-end c =
    let a = c.args in
    let big : length a.frame.bytes ≡ 33 = search rules in
    omega (arith, c.requires.count_bound)

pub slice_bounds-is_samples-end : goal.slice_bounds-is_samples-end
slice_bounds-is_samples-end c =
    let a = c.args in
    let big : length a.frame.bytes ≡ 33 = search rules in
    sym (length-take-le a.frame.count a.frame.bytes (omega (arith, c.requires.count_bound)))

pub returns-then-not-is_samples : goal.returns-then-not-is_samples
returns-then-not-is_samples c =
    let s = c in
    let a = s.args in
    let is = c.is_samples in
    let big : length a.frame.bytes ≡ 33 = search rules in
    not_taken a.what a.key a.panel a.at a.out.now
    (held_other a.frame.bytes a.frame.count (omega (arith, s.requires.count_bound)) (sym is.ensures ∙ not-true is.result c.if-not-is_samples.true-raw))

pub slice_bounds-samples-count : goal.slice_bounds-samples-count
slice_bounds-samples-count c =
    let s = c in
    let a = s.args in
    let is = c.is_samples in
    let big : length a.frame.bytes ≡ 33 = search rules in
    let some = held_some a.frame.bytes a.frame.count (omega (arith, s.requires.count_bound)) (sym is.ensures ∙ not-false is.result c.if-not-is_samples.false-raw) in
    omega arith

pub slice_bounds-samples-start : goal.slice_bounds-samples-start
slice_bounds-samples-start c =
    let s = c in
    let a = s.args in
    let is = c.is_samples in
    let big : length a.frame.bytes ≡ 33 = search rules in
    let some = held_some a.frame.bytes a.frame.count (omega (arith, s.requires.count_bound)) (sym is.ensures ∙ not-false is.result c.if-not-is_samples.false-raw) in
    omega arith

pub slice_bounds-samples-end : goal.slice_bounds-samples-end
slice_bounds-samples-end c =
    let s = c in
    let a = s.args in
    let big : length a.frame.bytes ≡ 33 = search rules in
    omega (arith, s.requires.count_bound)

pub samples-requires : goal.samples-requires
samples-requires c =
    let s = c in
    let a = s.args in
    let is = c.is_samples in
    let big : length a.frame.bytes ≡ 33 = search rules in
    let form = held_samples a.frame.bytes a.frame.count (omega (arith, s.requires.count_bound)) (sym is.ensures ∙ not-false is.result c.if-not-is_samples.false-raw) in
    room_as a.what a.key a.panel a.at (length a.out.now) form s.requires.frame_in_bounds

pub returns : goal.returns
returns c =
    let s = c in
    let a = s.args in
    let is = c.is_samples in
    let big : length a.frame.bytes ≡ 33 = search rules in
    let form = held_samples a.frame.bytes a.frame.count (omega (arith, s.requires.count_bound)) (sym is.ensures ∙ not-false is.result c.if-not-is_samples.false-raw) in
    taken_as a.what a.key a.panel form c.samples.ensures
