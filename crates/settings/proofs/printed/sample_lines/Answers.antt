-- `settings::printed::sample_lines` meets its contract. The invariant: the lines of the samples left, put where the loop stands, make the
-- whole.
-- Assumes nothing.
use mathlib.Core.Path.{ap, ◌∙◌}
use Prim.Native.Nat.{ℕ, min}
use lib.ListN.{length}
use Rattle.std.specs.Slice.Iter.{chunks_rest}
use Rattle.settings.proofs.Printing.{left_room, left_more, left_over}
use Rattle.settings.proofs.printed.sample_lines.Goals as goal

pub samples_line-end-requires-clause-samples_in_bounds : goal.samples_line-end-requires-clause-samples_in_bounds
samples_line-end-requires-clause-samples_in_bounds c =
    let l = c.loop-line in
    let next = (c.in-Some.ensures.steps).1 in
    let size = next.1 ∙ ap (λ (n : ℕ). min n (length (chunks_rest l.line-iterator))) l.invariant.0 in
    left_room c.args.samples.now (chunks_rest l.line-iterator) l.invariant.1 c.requires _ _ next.0 size next.2

pub loop-line-preserved : goal.loop-line-preserved
loop-line-preserved c =
    let l = c.loop-line in
    let steps = c.in-Some.ensures.steps in
    let next = steps.1 in
    let size = next.1 ∙ ap (λ (n : ℕ). min n (length (chunks_rest l.line-iterator))) l.invariant.0 in
    (steps.0 ∙ l.invariant.0, left_more c.args.samples.now (chunks_rest l.line-iterator) l.invariant.1 c.requires _ _ next.0 size next.2 c.samples_line-end.ensures)

pub returns : goal.returns
returns c = left_over c.args.samples.now (chunks_rest c.loop-line.line-iterator) c.loop-line.invariant.1 (c.in-None.ensures.steps).1.0
