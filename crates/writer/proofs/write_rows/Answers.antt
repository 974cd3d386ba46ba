-- `writer::write_rows` meets its contract. The invariant: the rows written so far, and the samples of the rows left, are all the
-- samples, and the bytes past them are as they were.
-- Assumes nothing.
use mathlib.Core.Path.{◌≡◌, refl, ap, subst, sym, ◌∙◌}
use Prim.Native.Nat.{ℕ, ◌+◌, ◌-◌, ◌*◌, ◌/◌, ◌≤◌}
use native.Mathlib.Omega.{arith}
use lib.ListN.{length}
use Rattle.writer.specs.Rows.{width}
use Rattle.writer.proofs.Filling.{put_same}
use Rattle.writer.proofs.Stretches.{Laid, laid_more, laid_over}
use Rattle.writer.proofs.write_rows.Goals as goal

pub loop-r-preserved : goal.loop-r-preserved
loop-r-preserved c =
    let l = c.loop-r in
    let n = c.args.n in
    let steps = c.in-Some.ensures.steps in
    let next = steps.0.1 in
    let at = width n * c.in-Some.r in
    let size : at + width n - at ≡ width n = omega arith in
    let room : width n * (length c.args.words.now / n) ≤ length l.out = omega (arith, l.auto.out) in (
      steps.0.0 ∙ l.invariant.0,
      subst (Laid n c.args.words.now c.args.out.now _ _) (sym (put_same l.out (ap (λ (r : ℕ). width n * r) steps.1) size c.write_row.ensures))
          (laid_more l.invariant.1 c.requires.n_nonzero.0 room _ _ _ next.0 (next.1 ∙ l.invariant.0) steps.2),
    )

pub returns : goal.returns
returns c =
    let p = c.loop-r.invariant in
    record { value = refl; out_after = laid_over p.1 c.requires.n_nonzero.0 (omega (arith, (c.in-None.ensures.steps).0.1.0, p.0)) }
