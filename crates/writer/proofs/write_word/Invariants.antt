-- `writer::write_word` meets its contract. The invariant: the samples written so far, and those of the bits left, are the word's.
-- Assumes nothing.
use mathlib.Core.Path.{◌≡◌}
use mathlib.Core.List.{◌++◌}
use Prim.Native.Nat.{◌*◌}
use lib.ListN.{take, drop}
use Rattle.writer.specs.Rows.{word_bits, clocking}
use Rattle.writer.proofs.write_word.Given as goal

abbrev pub invariant-loop-at : goal.invariant-loop-at
invariant-loop-at l = take (l.at * 2) l.out ++ clocking 4 (drop l.at (word_bits l.w)) ≡ clocking 4 (word_bits l.w)
