-- P1 to P12 hold, and so do the worked examples of the CH450's sheet.
--     paper_cases_lem     every claim of specs/Cases.antt
-- Assumes nothing.
use mathlib.Core.List.{◌++◌}
use Rattle.base.specs.Claims.{All}
use Rattle.base.proofs.Claims.{all_append}
use Rattle.word.specs.Cases.{word_cases}
use Rattle.word.proofs.Cases.{word_cases_lem}
use Rattle.chip.specs.Cases.{chip_cases}
use Rattle.chip.proofs.Cases.{chip_cases_lem}
use Rattle.ch450.specs.Cases.{ch450_cases}
use Rattle.ch450.proofs.Cases.{ch450_cases_lem}
use Rattle.demands.specs.Cases.{paper_cases}

pub paper_cases_lem : All paper_cases
paper_cases_lem = all_append (word_cases ++ chip_cases) ch450_cases (all_append word_cases chip_cases word_cases_lem chip_cases_lem) ch450_cases_lem
