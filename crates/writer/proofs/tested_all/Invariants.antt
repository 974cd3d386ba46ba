-- `writer::tested_all` meets its contract. The invariant: what the test says of the rest it says of the whole.
-- Assumes nothing.
use mathlib.Core.Path.{◌≡◌}
use lib.ListN.{drop}
use Rattle.writer.specs.Rows.{words_from}
use Rattle.writer.proofs.tested_all.Given as goal

abbrev pub invariant-loop-i : goal.invariant-loop-i
invariant-loop-i l = words_from l.n l.words l.i (drop l.i l.words) ≡ words_from l.n l.words 0 l.words
