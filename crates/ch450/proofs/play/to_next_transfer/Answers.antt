-- `ch450::play::to_next_transfer` meets its contract. The invariant: the stretch of the rest is that of the whole.
-- Assumes nothing.
use Rattle.std.proofs.Common.{◌≡◌, ◌+◌, ap, sym, ◌∙◌, arith}
use mathlib.Core.Path.{ap₂}
use Rattle.base.proofs.Picks.{pick_yes}
use Rattle.ch450.specs.declared.Panel.{Panel}
use Rattle.ch450.specs.declared.play.Transfer.{Transfer}
use Rattle.std.specs.declared.option.Option.{Option}
use Rattle.std.specs.declared.option.Option.TheVariants.{Some}
use Prim.Native.Nat.{ℕ}
use Rattle.ch450.specs.Panel.{with_wires}
use Rattle.ch450.proofs.Stretches.{ended, stretch_more, stretch_step, stretch_over}
use Rattle.ch450.proofs.play.to_next_transfer.Goals as goal

pub returns-then-completes : goal.returns-then-completes
returns-then-completes c =
    let o = c.loop-i in
    let a = c.args in
    ap₂ (λ (p : Panel) (t : Option Transfer). record { panel = p; stop = o.i + 1; transfer = t }) c.stepped.ensures
    (ap₂ (λ (first second : ℕ). Some (record { first = first; second = second })) c.first_byte.ensures c.second_byte.ensures)
    ∙ sym
    (stretch_more a.samples.now o.i (with_wires o.wires a.panel) c.loop-i-test.true
    ∙ pick_yes _ _ (sym c.completes.ensures ∙ c.if-completes.true))
    ∙ o.invariant.1

pub loop-i-preserved : goal.loop-i-preserved
loop-i-preserved c =
    let o = c.loop-i in
    let a = c.args in (
      omega arith,
      stretch_step a.samples.now o.i (with_wires o.wires a.panel) c.stepped-wires.result c.loop-i-test.true
          (sym c.completes.ensures ∙ c.if-completes.false)
          c.stepped-wires.ensures
          ∙ o.invariant.1,
    )

pub returns : goal.returns
returns c =
    let o = c.loop-i in
    let p = with_wires o.wires c.args.panel in
    let stop : c.max.result ≡ o.i = omega arith in
    ap (λ m. ended m p) stop ∙ sym (stretch_over c.args.samples.now o.i p c.loop-i-test.false) ∙ o.invariant.1
