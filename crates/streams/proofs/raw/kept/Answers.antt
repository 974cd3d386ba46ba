-- `streams::raw::kept` meets its contract.
-- Assumes nothing.
use Rattle.std.proofs.Common.{◌+◌, ◌%◌, ◌^◌, ap}
use Rattle.streams.specs.Held.{grown_by}
use Rattle.streams.proofs.raw.kept.Goals as goal

pub returns : goal.returns
unfolding grown_by
returns c =
    let s = c.args.state in
    ap (λ held. record { n = s.n; chain = s.chain; place = (s.place + 1) % 2 ^ 64; held = held; reader = s.reader }) c.grown.ensures
