-- `tallies::printed::chip_line` meets its contract.
-- Assumes nothing.
use Rattle.std.proofs.Common.{arith, refl}
use Rattle.capture.proofs.Reported.{line_put}
use Rattle.tallies.proofs.PrintedLines.{chip_length}
use Rattle.tallies.proofs.printed.chip_line.Goals as goal

pub returns : goal.returns
returns c =
    let a = c.args in
    let put = simp (c.copy_from_slice.ensures.after, c.copy_from_slice-2.ensures.after, c.copy_from_slice-3.ensures.after, c.copy_from_slice-4.ensures.after, c.eight_bytes.ensures, c.eight_bytes-2.ensures, c.eight_bytes-3.ensures, c.eight_bytes-4.ensures) at c.put_line.ensures in
    line_put _ refl (omega (arith, chip_length a.k a.c)) put
