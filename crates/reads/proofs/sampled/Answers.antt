-- `reads::sampled` meets its contract.
-- Assumes nothing.
use Rattle.std.proofs.Common.{◌%◌, ap, ◌∙◌}
use Rattle.chip.specs.declared.Chip.{Chip}
use Rattle.reads.specs.Reads.{kept, looked}
use Rattle.reads.proofs.Sampling.{sampled_so}
use Rattle.reads.proofs.sampled.Goals as goal

pub returns : goal.returns
returns c =
    let a = c.args in
    let p = c.requires in
    sampled_so a.what a.n p.n_value a.offset a.b a.chain a.reader p.at_in_bounds
    (c.look-looked.ensures ∙ ap (λ (last : Chip). looked a.chain.levels (a.b % 8) last a.reader) c.chip_at-last.ensures)
    c.put-end.ensures c.samples-took.ensures
    (c.kept.ensures ∙ ap (λ (last : Chip). kept a.chain.levels a.b a.offset last c.look-looked.result.reader) c.chip_at-last-2.ensures)
