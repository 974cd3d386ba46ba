-- `zhaqsumir::chips::are_within` meets its contract: each pair of a number and the most at its place is tested.
-- Assumes nothing.
use mathlib.Core.Path.{◌∙◌}
use borrow.Author.Rules.{rules}
use borrow.Author.Tests.{tests}
use Rattle.std.proofs.lemmas.Iterator.{YieldsList-from_slice, YieldsList-from_zip}
use Rattle.std.proofs.lemmas.Iterator.Search.{all_from_yields_List}
use Rattle.zhaqsumir.proofs.Fitting.{within, all_within}
use Rattle.zhaqsumir.proofs.chips.are_within.Goals as goal

pub returns : goal.returns
returns c =
    let ns = c.args.numbers.now in
    let mosts = c.args.mosts.now in
    let numbers = YieldsList-from_slice {s = c.zip.result.a} ns cc in
    let most = YieldsList-from_slice {s = c.zip.result.b} mosts cc in
    all_from_yields_List within c.all.new.self _ c.all.result c.all.ensures.ran (YieldsList-from_zip numbers most) (λ x b q k. search (rules, tests))
    ∙ all_within ns mosts
