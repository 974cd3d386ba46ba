-- `streams::text::refused` meets its contract: there is room for the whole refusal.
-- Assumes nothing.
use Rattle.std.proofs.Common.{refl, arith}
use Rattle.base.specs.Refusals.{number_of, place_of}
use Rattle.lines.proofs.Puts.{put_whole}
use Rattle.capture.proofs.Reported.{refusal_length}
use Rattle.streams.proofs.text.refused.Goals as goal

pub returns : goal.returns
returns c =
    let a = c.args in
    record {
      state = refl;
      over = refl;
      puts = put_whole (omega (arith, refusal_length (number_of a.e) (place_of a.e), c.requires)) c.refusal.ensures;
    }
