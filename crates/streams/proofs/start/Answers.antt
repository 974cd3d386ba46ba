-- `streams::start` meets its contract.
-- Assumes nothing.
use Rattle.std.proofs.Common.{ap, ◌∙◌}
use Rattle.chain.proofs.Passed.{start_done}
use Rattle.streams.specs.declared.Kind.TheVariants.{Unknown}
use Rattle.streams.proofs.start.Goals as goal

pub returns : goal.returns
returns c =
    let begun = ap (λ o. o.state) (c.start.ensures ∙ start_done 1 tt) in
    λ i. record { kind = Unknown; state = record { n = 0; chain = begun i; place = 0; held = c.none.ensures i; reader = c.start-2.ensures i } }
