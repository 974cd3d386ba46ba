-- `settings::printed::refused` meets its contract: the line at the front.
-- Assumes nothing.
use mathlib.Core.Path.{refl}
use mathlib.Core.List.{[]}
use native.Mathlib.Omega.{arith}
use Rattle.base.specs.Refusals.{refused, number_of, place_of}
use Rattle.capture.proofs.Reported.{refusal_length}
use Rattle.lines.proofs.Puts.{put_whole}
use Rattle.settings.proofs.Printing.{prints_so}
use Rattle.settings.proofs.printed.refused.Goals as goal

pub returns : goal.returns
returns c =
    let a = c.args in
    prints_so (refused (number_of a.e) (place_of a.e)) [] refl
    (put_whole (omega (arith, refusal_length (number_of a.e) (place_of a.e), c.requires)) c.refusal.ensures)
