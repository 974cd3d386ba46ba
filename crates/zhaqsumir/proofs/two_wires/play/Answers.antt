-- `zhaqsumir::two_wires::play` meets its contract: numbers that fit stand for the panel that is played.
-- Assumes nothing.
use mathlib.Core.Path.{ap, sym, ◌∙◌}
use Prim.Native.Nat.{ℕ}
use borrow.Author.Tests.{not-true, not-false}
use Rattle.base.specs.Refusals.{Told, Outcome}
use Rattle.ch450.specs.declared.Panel.{Panel}
use Rattle.ch450.specs.Entries.{played_of}
use Rattle.zhaqsumir.specs.Numbers.{alone}
use Rattle.zhaqsumir.specs.TwoWires.{played_by, play_of}
use Rattle.zhaqsumir.proofs.Ch450Panels.{panel_held, panel_refused}
use Rattle.zhaqsumir.proofs.two_wires.play.Goals as goal

pub returns-then-not-is_fitting : goal.returns-then-not-is_fitting
returns-then-not-is_fitting c =
    let a = c.args in
    let ns = a.numbers.now in
    let f = c.is_fitting in
    let no = panel_refused ns (sym f.ensures ∙ not-true f.result c.if-not-is_fitting.true-raw) in
    let said = ap (λ (t : Told Panel). play_of t ns a.key a.samples.now) no in
    record { numbers = sym (ap (λ o. alone o.told) said); panel = sym (ap (λ o. o.state) said) }

pub panel_of-requires : goal.panel_of-requires
panel_of-requires c = let f = c.is_fitting in sym f.ensures ∙ not-false f.result c.if-not-is_fitting.false-raw

pub returns : goal.returns
returns c =
    let a = c.args in
    let ns = a.numbers.now in
    let f = c.is_fitting in
    let fits = sym f.ensures ∙ not-false f.result c.if-not-is_fitting.false-raw in
    let said = ap (λ (t : Told Panel). play_of t ns a.key a.samples.now) (panel_held ns fits) in
    let whole = c.play.ensures ∙ ap (λ (p : Panel). played_of p a.key a.samples.now) c.panel_of.ensures in
    let after = c.after_block.ensures in
    record {
      numbers = after.answer_value ∙ ap (λ (o : Outcome Panel ℕ). alone o.told) whole ∙ sym (ap (λ o. alone o.told) said);
      panel = after.panel_value ∙ ap (λ (o : Outcome Panel ℕ). (played_by o ns).state) whole ∙ sym (ap (λ o. o.state) said);
    }
