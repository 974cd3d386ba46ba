-- `zhaqsumir::tallied::chips_from` meets its contract: eight chips' counts, four numbers each.
-- Assumes nothing.
use borrow.Author.Rules.{rules}
use Rattle.zhaqsumir.specs.Numbers.{chip_in}
use Rattle.zhaqsumir.proofs.Made.{made_places}
use Rattle.zhaqsumir.proofs.tallied.chips_from.Goals as goal

pub returns : goal.returns
returns c = made_places (chip_in c.args.numbers.now) c.from_fn.ensures.items (λ k y q h call. search rules)
