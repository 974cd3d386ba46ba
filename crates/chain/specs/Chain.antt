-- Document 01, "The panel" and "Samples and edges": a chain of chips, what one sample does to it, and what a block does.
-- Assumes nothing.
use Rattle.std.specs.Prelude.{◌≡◌, ℕ, zero, suc, Bool, true, false, ◌&&◌, List, [], ◌∷◌, leb, ltb}
use Rattle.base.specs.Pick.{pick}
use Rattle.base.specs.Refusals.{Told, done, refused, then_tested}
use Rattle.base.specs.Samples as Samples
use Rattle.chip.specs.declared.Chip.{Chip}
use Rattle.chip.specs.Record.{valid}
use Rattle.chip.specs.Commands.{dout}
use Rattle.chip.specs.Edges.{din, stepped}
use Rattle.chain.specs.declared.Chain.{Chain}

-- the most chips in a chain
abbrev pub most : ℕ
most = 8

-- N is 1 to 8
abbrev pub chip_count : ℕ → Bool
chip_count n = leb 1 n && leb n most

-- the first n records are valid
unfoldable pub all_valid : ℕ → List Chip → Bool
all_valid zero cs = true
all_valid (suc n) [] = true
all_valid (suc n) (c ∷ cs) = valid c && all_valid n cs

-- refusal 12's test: the records below N are valid, and the levels kept are at most 7
abbrev pub valid_chain : ℕ → Chain → Bool
valid_chain n ch = all_valid n ch.chips && leb ch.levels 7

-- the tests that come first in every entry that is given a chain: refusals 3, 12
unfoldable pub tested_of : ℕ → Chain → Told (Unit {0})
tested_of n ch = pick (chip_count n) (pick (valid_chain n ch) (done tt) (refused 12 0)) (refused 3 0)

-- refusal 1's test, by the lowest place of a sample above 7
unfoldable pub checked_from : ℕ → List ℕ → Told (Unit {0})
checked_from place ss = Samples.checked_from 7 place ss

-- the tests of an entry that names a chip: refusals 3, 12, 2
abbrev pub tested_at : ℕ → Chain → ℕ → Told (Unit {0})
tested_at n ch k = then_tested (tested_of n ch) (pick (ltb k n) (done tt) (refused 2 0))

-- the tests of an entry that plays samples: refusals 3, 12, 1
abbrev pub tested_with : ℕ → Chain → List ℕ → Told (Unit {0})
tested_with n ch ss = then_tested (tested_of n ch) (checked_from 0 ss)

-- one sample for the first n chips: the first takes what is given as DIN, each other what the DOUT before it showed before
-- this sample; records from n on stay
unfoldable pub stepped_row : ℕ → ℕ → ℕ → Bool → List Chip → List Chip
stepped_row zero was now d cs = cs
stepped_row (suc n) was now d [] = []
stepped_row (suc n) was now d (c ∷ cs) = stepped was now d c ∷ stepped_row n was now (dout c) cs

-- one sample: chip 0 takes DIN from the host, and the levels are kept
abbrev pub stepped_chain : ℕ → ℕ → Chain → Chain
stepped_chain n sample ch = record { chips = stepped_row n ch.levels sample (din sample) ch.chips; levels = sample }

-- a block of samples, one after another
unfoldable pub played : ℕ → List ℕ → Chain → Chain
played n [] ch = ch
played n (s ∷ ss) ch = played n ss (stepped_chain n s ch)

-- of the first n chips none but the last has KEYB on
abbrev pub KeypadLast : ℕ → List Chip → Type 0
KeypadLast zero cs = Unit {0}
KeypadLast (suc zero) cs = Unit {0}
KeypadLast (suc (suc n)) [] = Unit {0}
KeypadLast (suc (suc n)) (c ∷ cs) = (c.settings.system.keyb ≡ false) × KeypadLast (suc n) cs
