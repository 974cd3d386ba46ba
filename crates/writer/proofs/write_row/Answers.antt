-- `writer::write_row` meets its contract. The invariant: the samples written so far, and those of the words left, are the row's.
-- Assumes nothing.
use mathlib.Core.Path.{◌≡◌, ap, subst, sym, ◌∙◌}
use Prim.Native.Nat.{ℕ, ◌+◌, ◌-◌, ◌*◌}
use native.Mathlib.Omega.{arith}
use Rattle.writer.proofs.Filling.{put_same}
use Rattle.writer.proofs.Stretches.{Sent, sent_more, sent_over}
use Rattle.writer.proofs.write_row.Goals as goal

pub loop-k-preserved : goal.loop-k-preserved
loop-k-preserved c =
    let l = c.loop-k in
    let steps = c.in-Some.ensures.steps in
    let at = 24 * c.in-Some.k in
    let size : at + 24 - at ≡ 24 = omega arith in
    subst (Sent c.args.words.now _ _) (sym (put_same l.out (ap (λ (k : ℕ). 24 * k) steps.1) size c.write_word.ensures))
    (sent_more l.invariant (l.auto.out ∙ c.requires.out_len) _ _ _ steps.0 steps.2)

pub returns : goal.returns
returns c = sent_over _ c.loop-k.invariant (c.loop-k.auto.out ∙ c.requires.out_len) (c.in-None.ensures.steps).0.0
