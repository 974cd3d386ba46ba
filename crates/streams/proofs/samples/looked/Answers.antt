-- `streams::samples::looked` meets its contract.
-- Assumes nothing.
use Rattle.std.proofs.Common.{refl}
use Rattle.streams.proofs.Runs.{looked_run}
use Rattle.streams.proofs.samples.looked.Goals as goal

pub returns : goal.returns
returns c =
    let a = c.args in
    let p = c.requires in
    looked_run a.what a.state a.bytes.now a.at a.out.now p.n_value p.bound p.bytes_in_bounds c.samples-ran.ensures refl c.none.ensures
