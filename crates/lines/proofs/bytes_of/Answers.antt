-- `lines::bytes_of` meets its contract. The invariant: the bytes stored, with those of the digits left, are the line's.
-- Assumes nothing.
use mathlib.Core.Path.{ap₂, sym, ◌∙◌}
use Prim.Native.Nat.{ℕ, ◌+◌, ◌*◌}
use native.Mathlib.Omega.{arith}
use Rattle.lines.proofs.Lines.{bytes_half}
use Rattle.lines.proofs.Frames.{pair_digits, pairs_more, pairs_over}
use Rattle.lines.proofs.bytes_of.Goals as goal

pub overflow_mul-bytes : goal.overflow_mul-bytes
overflow_mul-bytes c =
    let next = (c.in-Some.ensures.steps).0.1 in
    let d = pair_digits c.loop-i.invariant.1 c.in-Some.digits.now _ next.0 (next.1 ∙ c.loop-i.invariant.0) in
    omega (arith, d.0, d.1)

pub overflow_add-bytes : goal.overflow_add-bytes
overflow_add-bytes c =
    let next = (c.in-Some.ensures.steps).0.1 in
    let d = pair_digits c.loop-i.invariant.1 c.in-Some.digits.now _ next.0 (next.1 ∙ c.loop-i.invariant.0) in
    omega (arith, d.0, d.1)

pub loop-i-preserved : goal.loop-i-preserved
loop-i-preserved c =
    let l = c.loop-i in
    let steps = c.in-Some.ensures.steps in
    let next = steps.0.1 in (
      steps.0.0 ∙ l.invariant.0,
      pairs_more l.invariant.1 c.requires.line_len_bound c.in-Some.digits.now _ c.in-Some.i _ _ next.0 (next.1 ∙ l.invariant.0) steps.1 steps.2
          (ap₂ (λ (x y : ℕ). 16 * x + y) c.hex_value.ensures c.hex_value-in-loop-i.ensures),
    )

pub returns : goal.returns
returns c =
    let p = c.loop-i.invariant in
    let steps = c.in-None.ensures.steps in
    let bytes = pairs_over p.1 (omega (arith, steps.0.1.0, p.0)) in
    let half = sym (bytes_half c.args.line.now) in
    λ j. record { bytes = bytes j; count = half j }
