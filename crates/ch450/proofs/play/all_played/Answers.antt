-- `ch450::play::all_played` meets its contract. The invariant: the rest, played from here, is the whole played; the reads so far and those
-- of the rest are the whole's; and there are no more of them than samples so far.
-- Assumes nothing.
use mathlib.Core.Path.{refl, ap₂, sym, ◌∙◌}
use Prim.Native.Nat.{ℕ}
use native.Mathlib.Nat.{zero-add}
use native.Mathlib.Omega.{arith}
use Rattle.ch450.specs.declared.Panel.{Panel}
use Rattle.ch450.proofs.Rest.{play_over, reads_over}
use Rattle.ch450.proofs.Stretches.{read_once, stretch_fewer, stretch_within, stretch_plays, stretch_reads}
use borrow.Author.Rules.{rules}
use Rattle.ch450.proofs.play.all_played.Goals as goal

pub loop-i-init : goal.loop-i-init
loop-i-init c = (refl, zero-add _, search rules, search rules)

pub overflow_add-reads : goal.overflow_add-reads
overflow_add-reads c =
    let once = read_once c.to_next_transfer-part.result.transfer in
    search rules

pub loop-i-smaller : goal.loop-i-smaller
loop-i-smaller c =
    let o = c.loop-i in
    let t = c.to_next_transfer-part in
    let ss = c.args.samples.now in
    stretch_fewer ss o.i o.next t.result t.ensures c.loop-i-test.true

pub loop-i-preserved : goal.loop-i-preserved
loop-i-preserved c =
    let o = c.loop-i in
    let t = c.to_next_transfer-part in
    let ss = c.args.samples.now in
    let within = stretch_within ss o.i o.next t.result t.ensures c.loop-i-test.true in
    let once = read_once t.result.transfer in (
      stretch_plays ss o.i o.next t.result t.ensures ∙ o.invariant.0,
      omega (arith, c.read_by-reads.ensures, stretch_reads ss o.i o.next t.result t.ensures, o.invariant.1),
      omega (arith, c.read_by-reads.ensures, once, within.0, o.invariant.2),
      within.1,
    )

pub returns : goal.returns
returns c =
    let o = c.loop-i in
    let ss = c.args.samples.now in
    ap₂ (λ (p : Panel) (n : ℕ). record { panel = p; reads = n }) (sym (play_over ss o.i o.next c.loop-i-test.false) ∙ o.invariant.0)
    (omega (arith, reads_over ss o.i o.next c.loop-i-test.false, o.invariant.1))
