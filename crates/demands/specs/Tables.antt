-- Document 01, "Refusal numbers": the table of each entry, its refusals in document 01's order: 3, 12, 9, then 4, 5, then words
-- from the first on (6, 7, 13; the place is named), then 8; samples and a scan's chip after 3 and 12, and a list's 8 after the samples.
-- A table has the refusals that the entry's arguments can give rise to. proofs/Exact.antt, ExactChain.antt, ExactWriter.antt and
-- ExactLibrary.antt prove that each entry keeps to its table; a text's table is in specs/Texts.antt, that of a tally's text in
-- specs/Tallies.antt.
-- Assumes nothing.
use Rattle.std.specs.Prelude.{◌⊎◌, List, [], ◌∷◌, ◌++◌, ℕ}
use Rattle.word.specs.declared.Command.{Command}
use Rattle.chip.specs.declared.Chip.{Chip}
use Rattle.chain.specs.declared.Chain.{Chain}
use Rattle.demands.specs.Exact.{Row, names, row, each}
use Rattle.demands.specs.Refusals.{SampleAbove7, ChipNotBelow, NotOneToMost, NotMultiple, MoreThan64Rows, OutOfRange, NumbersOutOfRange, Unlisted, KeypadBeforeLast, SleepsLit, BufferShort, ListShort, Unheld, LevelsAbove7, UnheldChain}

-- ---- words

-- word::decode
abbrev pub decode_table : ℕ → List Row
decode_table w = row 6 (Unlisted w) ∷ []

-- word::encode
abbrev pub encode_table : Command → List Row
encode_table command = row 9 (OutOfRange command) ∷ []

-- zhaqsumir::zhaqsumir_encode, of a kind and its fields
abbrev pub numbers_table : ℕ → List ℕ → List Row
numbers_table kind fields = row 9 (NumbersOutOfRange kind fields) ∷ []

-- ---- one chip

-- chip::scan and chip::segments_lit
abbrev pub chip_table : Chip → List Row
chip_table c = row 12 (Unheld c) ∷ []

-- chip::apply
abbrev pub chip_apply_table : Chip → Command → List Row
chip_apply_table c command = row 12 (Unheld c) ∷ row 9 (OutOfRange command) ∷ []

-- chip::sample
abbrev pub chip_sample_table : Chip → ℕ → ℕ → List Row
chip_sample_table c levels sample = row 12 (Unheld c ⊎ LevelsAbove7 levels) ∷ row 1 (SampleAbove7 sample) ∷ []

-- ---- a chain

-- a sample at a place
abbrev pub sample_row : ℕ → ℕ → List Row
sample_row place sample = names 1 place (SampleAbove7 sample) ∷ []

-- samples, all tested; the lowest place is named
abbrev pub sample_rows : List ℕ → List Row
sample_rows samples = each sample_row 0 samples

-- chain::start
abbrev pub start_table : ℕ → List Row
start_table n = row 3 (NotOneToMost n) ∷ []

-- chain::host_sees
abbrev pub chain_table : ℕ → Chain → List Row
chain_table n ch = row 3 (NotOneToMost n) ∷ row 12 (UnheldChain n ch) ∷ []

-- chain::play::play
abbrev pub play_table : ℕ → Chain → List ℕ → List Row
play_table n ch samples = row 3 (NotOneToMost n) ∷ row 12 (UnheldChain n ch) ∷ sample_rows samples

-- chain::blocks::block
abbrev pub block_table : ℕ → Chain → List ℕ → List ℕ → List Row
block_table n ch samples list = play_table n ch samples ++ row 8 (ListShort ch samples list) ∷ []

-- chain::one::scan and chain::one::segments_lit
abbrev pub one_table : ℕ → Chain → ℕ → List Row
one_table n ch k = row 3 (NotOneToMost n) ∷ row 12 (UnheldChain n ch) ∷ row 2 (ChipNotBelow n k) ∷ []

-- chain::one::apply
abbrev pub one_apply_table : ℕ → Chain → ℕ → Command → List Row
one_apply_table n ch k command =
    row 3 (NotOneToMost n) ∷ row 12 (UnheldChain n ch) ∷ row 9 (OutOfRange command) ∷ row 2 (ChipNotBelow n k) ∷ []

-- chain::finder::next_rise
abbrev pub find_table : ℕ → List ℕ → List Row
find_table levels samples = row 12 (LevelsAbove7 levels) ∷ sample_rows samples

-- ---- the writer

-- a word at a place of the list: 6, 7, 13
abbrev pub word_row : ℕ → List ℕ → ℕ → ℕ → List Row
word_row n ws place w = names 6 place (Unlisted w) ∷ names 7 place (KeypadBeforeLast n place w) ∷ names 13 place (SleepsLit n ws place w) ∷ []

-- words from the first on; the place is named
abbrev pub word_rows : ℕ → List ℕ → List Row
word_rows n ws = each (word_row n ws) 0 ws

-- writer::write
abbrev pub write_table : ℕ → List ℕ → List ℕ → List Row
write_table n ws out =
    (row 3 (NotOneToMost n) ∷ row 4 (NotMultiple n ws) ∷ row 5 (MoreThan64Rows n ws) ∷ word_rows n ws) ++ row 8 (BufferShort n ws out) ∷ []
