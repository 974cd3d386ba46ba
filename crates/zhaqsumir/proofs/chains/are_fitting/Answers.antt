-- `zhaqsumir::chains::are_fitting` meets its contract: each chip below n is tested.
-- Assumes nothing.
use mathlib.Core.Path.{refl, ◌∙◌}
use native.Mathlib.Omega.{arith}
use borrow.Author.Rules.{rules}
use Rattle.std.proofs.lemmas.Iterator.{YieldsList-from_range}
use Rattle.std.proofs.lemmas.Iterator.Search.{all_from_yields_List}
use Rattle.zhaqsumir.specs.Panels.{chip_fits_in}
use Rattle.zhaqsumir.proofs.ChainRows.{part_rest}
use Rattle.zhaqsumir.proofs.Fitting.{all_below}
use Rattle.zhaqsumir.proofs.chains.are_fitting.Goals as goal

pub returns : goal.returns
returns c =
    let a = c.args in
    let places = YieldsList-from_range 0 a.n a.n refl (omega arith) in
    all_from_yields_List (chip_fits_in a.numbers.now) c.all.new.self _ c.all.result c.all.ensures.ran places (λ x b q k. search (rules, part_rest))
    ∙ all_below (chip_fits_in a.numbers.now) a.n
