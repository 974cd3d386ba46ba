-- `streams::raw::refused` meets its contract: there is room for the whole refusal.
-- Assumes nothing.
use Rattle.std.proofs.Common.{refl, arith}
use Rattle.lines.proofs.Puts.{put_whole}
use Rattle.streams.proofs.Refusals.{raw_refusal_length}
use Rattle.streams.proofs.raw.refused.Goals as goal

pub returns : goal.returns
returns c =
    let a = c.args in
    record {
      state = refl;
      over = refl;
      puts = put_whole (omega (arith, raw_refusal_length a.state.place, c.requires)) c.refusal.ensures;
    }
