-- `zhaqsumir::two_wires::lit` meets its contract: numbers that fit stand for the panel whose segments are told.
-- Assumes nothing.
use mathlib.Core.Path.{ap, sym, ◌∙◌}
use borrow.Author.Tests.{not-true, not-false}
use Rattle.ch450.specs.declared.Panel.{Panel}
use Rattle.ch450.specs.Entries.{segments_of}
use Rattle.zhaqsumir.specs.TwoWires.{lit_by, lit_from}
use Rattle.zhaqsumir.proofs.Ch450Panels.{panel_held, panel_refused}
use Rattle.zhaqsumir.proofs.two_wires.lit.Goals as goal

pub returns-then-not-is_fitting : goal.returns-then-not-is_fitting
returns-then-not-is_fitting c =
    let f = c.is_fitting in
    sym (ap lit_from (panel_refused c.args.numbers.now (sym f.ensures ∙ not-true f.result c.if-not-is_fitting.true-raw)))

pub panel_of-requires : goal.panel_of-requires
panel_of-requires c = let f = c.is_fitting in sym f.ensures ∙ not-false f.result c.if-not-is_fitting.false-raw

pub returns : goal.returns
returns c =
    let f = c.is_fitting in
    let fits = sym f.ensures ∙ not-false f.result c.if-not-is_fitting.false-raw in
    c.segments.ensures ∙ ap lit_by c.segments_lit.ensures
    ∙ ap (λ (p : Panel). lit_by (segments_of p)) c.panel_of.ensures
    ∙ sym (ap lit_from (panel_held c.args.numbers.now fits))
