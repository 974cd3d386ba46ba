-- `streams::samples::played` meets its contract.
-- Assumes nothing.
use Rattle.std.proofs.Common.{refl}
use Rattle.streams.proofs.Stepping.{samples_made}
use Rattle.streams.proofs.samples.played.Goals as goal

pub returns : goal.returns
returns c =
    let a = c.args in
    let p = c.requires in
    samples_made a.what a.state a.levels.now p.n_value p.all_below p.dout_value p.levels_in_bounds c.samples-took.ensures refl c.none.ensures
