-- `reads::run_length` meets its contract: the run is the front of the bytes that are samples.
-- Assumes nothing.
use Rattle.std.proofs.Common.{◌∙◌, rules, tests}
use Rattle.std.proofs.lemmas.Iterator.{YieldsList-from_slice}
use Rattle.std.proofs.lemmas.Iterator.Consumers.{count_from_yields_List}
use Rattle.std.proofs.lemmas.Iterator.Search.{YieldsList-from_take_while}
use Rattle.std.proofs.lemmas.List.Folds.{length-prefix_len}
use Rattle.reads.specs.Reads.{is_sample}
use Rattle.reads.proofs.Lengths.{run_prefix}
use Rattle.reads.proofs.run_length.Goals as goal

pub returns : goal.returns
returns c =
    let bytes = c.args.bytes.now in
    count_from_yields_List c.take_while.result _ c.count.ensures.ran
    (YieldsList-from_take_while _ is_sample (YieldsList-from_slice bytes cc) c.take_while.ensures.closure c.take_while.ensures.done (λ x b q k. search (rules, tests)))
    ∙ length-prefix_len is_sample bytes ∙ run_prefix bytes
