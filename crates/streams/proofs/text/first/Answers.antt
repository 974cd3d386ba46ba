-- `streams::text::first` meets its contract: a line that gives no number of chips is refused, and one that does starts them.
-- Assumes nothing.
use Rattle.std.proofs.Common.{◌+◌, ap, ◌∙◌}
use Rattle.lines.specs.Answers.{held_by}
use Rattle.chain.proofs.Passed.{start_done}
use Rattle.capture.proofs.Firsts.{bytes_none, bytes_some}
use Rattle.streams.specs.Steps.{first_taken}
use Rattle.streams.proofs.Stepping.{step_as, nothing_written}
use Rattle.streams.proofs.text.first.Goals as goal

pub returns-in_default : goal.returns-in_default
returns-in_default c =
    let a = c.args in
    let none = bytes_none (held_by a.frame) c.in_default.ensures in
    step_as (ap (first_taken a.state) none.1) c.refused.ensures

pub returns : goal.returns
returns c =
    let a = c.args in
    let some = bytes_some (held_by a.frame) c.in-Some.ensures in
    let begun = ap (λ o. o.state) (c.start.ensures ∙ start_done c.in-Some.n some.1) in
    step_as (ap (first_taken a.state) some.0)
    (nothing_written a.at a.out.now
    (λ i. record { n = c.in-Some.n; chain = begun i; place = a.state.place + 1; held = c.none.ensures i; reader = c.start-2.ensures i }))
