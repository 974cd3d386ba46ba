-- Demand 1, the exact table: every entry keeps to its table, specs/Tables.antt. Each theorem says of every input that a refusal is
-- told exactly when it is the first of the table that is given, and an answer exactly when none is.
--     decode_exact, encode_exact                                                      word
--     chip_apply_exact, chip_sample_exact, chip_scan_exact, chip_segments_exact       chip
-- Assumes nothing.
use mathlib.Core.List.{List}
use Prim.Native.Nat.{ℕ}
use lib.Dec.{leb}
use Rattle.base.specs.Refusals.{done}
use Rattle.word.specs.declared.Command.{Command}
use Rattle.word.specs.Words.{decoded_of, encoded_of, word_of, legal}
use Rattle.chip.specs.declared.Chip.{Chip}
use Rattle.chip.specs.Record.{valid}
use Rattle.chip.specs.Entries as One
use Rattle.demands.specs.Exact.{Exactly}
use Rattle.demands.specs.Tables.{decode_table, encode_table, chip_table, chip_apply_table, chip_sample_table}
use Rattle.demands.proofs.Conditions.{leb_tests, legal_tests, valid_tests}
use Rattle.demands.proofs.ByTable.{answered, by_table, tested, tested_twice, told_by, told_by_two}
use Rattle.demands.proofs.Listed.{decoded_table}

-- ---- words

pub decode_exact : (w : ℕ) → Exactly (decoded_of w) (decode_table w)
decode_exact w = by_table (decoded_table w)

pub encode_exact : (command : Command) → Exactly (encoded_of command) (encode_table command)
unfolding encoded_of
encode_exact command = by_table (tested (done (word_of command)) (legal_tests command) (answered tt))

-- ---- one chip

pub chip_scan_exact : (c : Chip) (bytes : List ℕ) → Exactly (One.scanned_of c bytes).told (chip_table c)
unfolding One.scanned_of
chip_scan_exact c bytes = by_table (told_by (valid c) _ _ (tested _ (valid_tests c) (answered tt)))

pub chip_segments_exact : (c : Chip) → Exactly (One.segments_of c).told (chip_table c)
unfolding One.segments_of
chip_segments_exact c = by_table (told_by (valid c) _ _ (tested _ (valid_tests c) (answered tt)))

pub chip_apply_exact : (c : Chip) (command : Command) → Exactly (One.applied_of c command).told (chip_apply_table c command)
unfolding One.applied_of
chip_apply_exact c command =
    by_table (told_by (valid c) _ _ (tested _ (valid_tests c) (told_by (legal command) _ _ (tested _ (legal_tests command) (answered tt)))))

pub chip_sample_exact : (c : Chip) (levels sample : ℕ) → Exactly (One.sampled_of c levels sample).told (chip_sample_table c levels sample)
unfolding One.sampled_of
chip_sample_exact c levels sample =
    by_table
    (told_by_two (valid c) (leb levels 7) _ _ _
    (tested_twice _ (valid_tests c) (leb_tests levels 7) (told_by (leb sample 7) _ _ (tested _ (leb_tests sample 7) (answered tt)))))
