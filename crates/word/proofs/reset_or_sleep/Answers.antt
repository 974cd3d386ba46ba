-- `word::reset_or_sleep` meets its contract: the number matched says which row the word begins as.
-- Assumes nothing.
use mathlib.Core.Path.{sym}
use native.Mathlib.Omega.{arith}
use Rattle.word.proofs.Rows.{fits_row, no_row}
use Rattle.word.proofs.reset_or_sleep.Goals as goal

pub returns-in-513 : goal.returns-in-513
returns-in-513 c =
    sym (fits_row c.args.word 4 tt (omega arith))

pub returns-in-514 : goal.returns-in-514
returns-in-514 c =
    sym (fits_row c.args.word 5 tt (omega arith))

pub returns-in_default : goal.returns-in_default
returns-in_default c =
    sym (no_row c.args.word (omega arith))
