-- `writer::tested_all` meets its contract. The invariant: what the test says of the rest it says of the whole.
-- Assumes nothing.
use mathlib.Core.Path.{sym, ◌∙◌}
use Rattle.writer.proofs.Tests.{told_on, words_after, words_over}
use Rattle.writer.proofs.tested_all.Goals as goal

pub returns-in_err-tested : goal.returns-in_err-tested
returns-in_err-tested c =
    told_on _ c.from_residual.result c.from_residual.ensures.1
    ∙ words_after c.args.n c.args.words.now c.loop-i.i c.loop-i-test.true _ c.in_err-tested.ensures
    ∙ c.loop-i.invariant

pub loop-i-preserved : goal.loop-i-preserved
loop-i-preserved c =
    words_after c.args.n c.args.words.now c.loop-i.i c.loop-i-test.true _ c.in_ok-tested.ensures ∙ c.loop-i.invariant

pub returns : goal.returns
returns c = sym (words_over c.args.n c.args.words.now c.loop-i.i c.loop-i-test.false) ∙ c.loop-i.invariant
