-- `streams::samples::plain_length` meets its contract: they are the front of the bytes that is below 8.
-- Assumes nothing.
use Rattle.std.proofs.Common.{◌∙◌, ltb, rules, tests}
use Rattle.std.proofs.lemmas.Iterator.{YieldsList-from_slice}
use Rattle.std.proofs.lemmas.Iterator.Consumers.{count_from_yields_List}
use Rattle.std.proofs.lemmas.Iterator.Search.{YieldsList-from_take_while}
use Rattle.std.proofs.lemmas.List.Folds.{length-prefix_len}
use Rattle.streams.proofs.Runs.{plain_prefix}
use Rattle.streams.proofs.samples.plain_length.Goals as goal

pub returns : goal.returns
returns c =
    let bytes = c.args.bytes.now in
    count_from_yields_List c.take_while.result c.count.result c.count.ensures.ran
    (YieldsList-from_take_while _ (λ b. ltb b 0x08) (YieldsList-from_slice bytes cc) c.take_while.ensures.closure c.take_while.ensures.done (λ x b q k. search (rules, tests)))
    ∙ length-prefix_len (λ b. ltb b 0x08) bytes ∙ plain_prefix bytes
