-- `streams::held::grown` meets its contract. The invariant: what is held, grown by what is left, is what it is to become.
-- Assumes nothing.
use Rattle.std.proofs.Common.{sym, ◌∙◌, rules}
use Rattle.streams.proofs.Helds.{grown_full, grown_more, grown_over}
use Rattle.streams.proofs.held.grown.Goals as goal

pub returns-then-next-ge66 : goal.returns-then-next-ge66
returns-then-next-ge66 c =
    let l = c.loop-b in
    c.too_long.ensures ∙ sym (grown_full l.next _ l.b-index c.loop-b-test.true c.if-next-ge66.true) ∙ l.invariant.1

pub loop-b-preserved : goal.loop-b-preserved
loop-b-preserved c =
    let l = c.loop-b in
    (search rules, grown_more l.next _ l.b-index c.loop-b-test.true c.if-next-ge66.false ∙ l.invariant.1)

pub returns : goal.returns
returns c = sym (grown_over _ _ _ c.loop-b-test.false) ∙ c.loop-b.invariant.1
