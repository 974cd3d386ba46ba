-- `streams::raw::one_byte` meets its contract: one of the first three bytes, or one of an item.
-- Assumes nothing.
use Rattle.std.proofs.Common.{sym, ◌∙◌}
use Rattle.streams.proofs.RawSteps.{by_items, by_head}
use Rattle.streams.proofs.Stepping.{step_as}
use Rattle.streams.proofs.raw.one_byte.Goals as goal

pub returns-then-not-is_count : goal.returns-then-not-is_count
returns-then-not-is_count c =
    let a = c.args in
    step_as (by_head a.what a.state a.b (sym c.is_count.ensures ∙ c.if-not-is_count.true)) c.head_byte.ensures

pub returns : goal.returns
returns c =
    let a = c.args in
    step_as (by_items a.what a.state a.b (sym c.is_count.ensures ∙ c.if-not-is_count.false)) c.item_byte.ensures
