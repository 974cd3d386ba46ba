-- `streams::raw::head_byte` meets its contract: N starts a chain.
-- Assumes nothing.
use Rattle.std.proofs.Common.{◌+◌, ◌%◌, ◌^◌, T, sym, ap, ◌∙◌, subst}
use Rattle.chain.proofs.Passed.{start_done}
use Rattle.streams.proofs.Stepping.{step_as, nothing_written, head_count}
use Rattle.streams.proofs.raw.head_byte.Goals as goal

pub returns : goal.returns
returns c =
    let a = c.args in
    let good = sym c.is_count.ensures ∙ c.if-not-is_count.false in
    let begun = ap (λ o. o.state) (c.start.ensures ∙ start_done a.b (subst T (sym good) tt)) in
    step_as (head_count a.state a.b c.if-state-lt2.false good)
    (nothing_written a.at a.out.now
    (λ i. record { n = a.b; chain = begun i; place = (a.state.place + 1) % 2 ^ 64; held = c.none.ensures i; reader = c.start-2.ensures i }))
