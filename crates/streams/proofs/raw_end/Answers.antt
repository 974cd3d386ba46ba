-- `streams::raw_end` meets its contract: where nothing is held nothing is written, else a refusal.
-- Assumes nothing.
use Rattle.std.proofs.Common.{arith}
use Rattle.lines.proofs.Puts.{put_whole}
use Rattle.streams.proofs.Refusals.{raw_refusal_length}
use Rattle.streams.proofs.Feeding.{end_some}
use Rattle.streams.proofs.raw_end.Goals as goal

pub returns : goal.returns
returns c =
    let a = c.args in
    end_some a.state.held.count _ c.if-state-eq0.false (put_whole (omega (arith, raw_refusal_length a.state.place, c.requires)) c.refusal.ensures)
