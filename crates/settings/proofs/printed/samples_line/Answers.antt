-- `settings::printed::samples_line` meets its contract.
-- Assumes nothing.
use mathlib.Core.Path.{ap, sym}
use Rattle.capture.proofs.Reported.{line_put}
use Rattle.lines.specs.Lines.{line_for}
use Rattle.settings.proofs.Printing.{copied}
use Rattle.settings.proofs.printed.samples_line.Goals as goal

pub returns : goal.returns
returns c =
    line_put _ (ap line_for (sym (copied c.args.samples.now c.copy_from_slice.ensures.after))) c.requires.samples_in_bounds c.put_line.ensures
