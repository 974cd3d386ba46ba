-- `chain::play::to_next_rise` meets its contract: there are no more chips than the most.
-- Assumes nothing.
use Rattle.std.proofs.Common.{◌≡◌, ◌∙◌, ap, length, drop, arith, rules}
use Rattle.base.proofs.Lists.{length_mapped}
use Rattle.base.proofs.Tests.{by_order}
use Rattle.chain.specs.Chain.{most}
use Rattle.chain.specs.Stretch.{stretch_from}
use Rattle.chain.proofs.Stretch.{stretch_chips}
use Rattle.chain.proofs.play.to_next_rise.Goals as goal

pub returns : goal.returns
returns c =
    let a = c.args in
    let rest = drop a.from a.samples.now in
    let all : length a.chain.chips ≡ most = search (rules, length_mapped) in
    c.stretch_of.ensures
    ∙ by_order a.n most (λ few. ap (λ m. stretch_from m a.from rest a.chain) (omega arith))
    (λ many. stretch_chips c.min.result a.n a.from rest a.chain (omega arith) (omega arith))
