-- Document 01, "Cases": P1 to P12, what they say of words and what they say of a chip, and the worked examples of the CH450's sheet (C-15),
-- in one list.
-- Assumes nothing.
use Rattle.std.specs.Prelude.{List, ◌++◌}
use Rattle.word.specs.Cases.{word_cases}
use Rattle.chip.specs.Cases.{chip_cases}
use Rattle.ch450.specs.Cases.{ch450_cases}

-- every case that is proved
abbrev pub paper_cases : List (Type 0)
paper_cases = word_cases ++ chip_cases ++ ch450_cases
