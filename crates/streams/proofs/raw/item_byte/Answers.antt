-- `streams::raw::item_byte` meets its contract: by what is held, and what the byte is.
-- Assumes nothing.
use Rattle.std.proofs.Common.{sym, ◌∙◌, arith}
use Rattle.streams.proofs.RawSteps.{starts_sample, item_scan, item_other, item_more, item_whole}
use Rattle.streams.proofs.Stepping.{step_as, nothing_written}
use Rattle.streams.proofs.raw.item_byte.Goals.{else-count-eq0-via-then-count-eq0+else-not-is_scan, else-count-eq0-via-else-count-eq0}
use Rattle.streams.proofs.raw.item_byte.Goals as goal

pub returns-then-count-ge8 : goal.returns-then-count-ge8
returns-then-count-ge8 c =
    let a = c.args in
    step_as (item_whole a.what a.state a.b (omega arith) c.if-count-ge8.true) c.scan.ensures

pub returns-then-not-is_scan : goal.returns-then-not-is_scan
returns-then-not-is_scan c =
    let a = c.args in
    let p = c.requires in
    let none = c.if-count-eq0.true in
    step_as (item_other a.what a.state a.b none (starts_sample a.state a.b p.n_value none ∙ p.b_value) (sym c.is_scan.ensures ∙ c.if-not-is_scan.true))
    c.refused.ensures

pub returns : goal.returns
returns c =
    let a = c.args in
    let p = c.requires in
    let held = nothing_written a.at a.out.now c.kept.ensures in
    elim c.else-count-eq0.branch [
      | else-count-eq0-via-then-count-eq0+else-not-is_scan w ↦
          let none = w.if-count-eq0.true in
          step_as (item_scan a.what a.state a.b none (starts_sample a.state a.b p.n_value none ∙ p.b_value) (sym w.is_scan.ensures ∙ w.if-not-is_scan.false)) held
      | else-count-eq0-via-else-count-eq0 w ↦ step_as (item_more a.what a.state a.b w.if-count-eq0.false c.if-count-ge8.false) held
    ]
