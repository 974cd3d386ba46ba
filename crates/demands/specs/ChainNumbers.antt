-- Document 02, C-11, for the library that C links: each refusal's "given exactly when" where a panel of CH452 chips is lent as 202
-- numbers, and the tables of those entries. proofs/ExactNumbers.antt proves that each entry keeps to its table.
-- Assumes nothing.
use Rattle.std.specs.Prelude.{◌⊎◌, List, [], ◌∷◌, ◌++◌, ℕ, ◌+◌, ◌<◌, get_or}
use Rattle.zhaqsumir.specs.Panels.{from_chip, count_in, chain_of}
use Rattle.demands.specs.Exact.{Row, row}
use Rattle.demands.specs.Refusals.{ChipNotBelow, NotOneToMost, UnheldChain, ListShort}
use Rattle.demands.specs.Tables.{sample_rows}

-- 12, of the 25 numbers of a chip: one is above the most that its field can hold
pub data TooLarge (ns : List ℕ) : Type 0 where
  register : 65535 < get_or ns 0 0 → TooLarge ns
  latch : 1 < get_or ns 1 0 → TooLarge ns
  -- the readout's code, and its bits left
  readout : (j : ℕ) → j < 2 → 255 < get_or ns (2 + j) 0 → TooLarge ns
  -- INTM, SSPD, DPLR, KEYB, DISP, MODE
  setting : (j : ℕ) → j < 6 → 1 < get_or ns (4 + j) 0 → TooLarge ns
  -- LIMIT, the blink byte, the custom character
  shown : (j : ℕ) → j < 3 → 255 < get_or ns (10 + j) 0 → TooLarge ns
  sleeping : 1 < get_or ns 13 0 → TooLarge ns
  -- DIG0 to DIG7, and the key's code
  digit : (j : ℕ) → j < 9 → 255 < get_or ns (14 + j) 0 → TooLarge ns
  interrupt : 1 < get_or ns 23 0 → TooLarge ns
  last_scan : 255 < get_or ns 24 0 → TooLarge ns

-- 12, of a panel: the levels or a number of a chip below N; chips from N on are not looked at
abbrev pub TooLargePanel : List ℕ → Type 0
TooLargePanel ns = (255 < get_or ns 1 0) ⊎ ((k : ℕ) × (k < count_in ns) × TooLarge (from_chip k ns))

-- or the chain that they stand for is one that no chain can hold
abbrev pub UnheldNumbers : List ℕ → Type 0
UnheldNumbers ns = TooLargePanel ns ⊎ UnheldChain (count_in ns) (chain_of ns)

-- ---- the tables; that of `zhaqsumir_start` is `start_table` of specs/Tables.antt

-- zhaqsumir::zhaqsumir_sees
abbrev pub panel_table : List ℕ → List Row
panel_table ns = row 3 (NotOneToMost (count_in ns)) ∷ row 12 (UnheldNumbers ns) ∷ []

-- zhaqsumir::zhaqsumir_scan and zhaqsumir::zhaqsumir_lit
abbrev pub chip_numbers_table : List ℕ → ℕ → List Row
chip_numbers_table ns k = panel_table ns ++ row 2 (ChipNotBelow (count_in ns) k) ∷ []

-- zhaqsumir::zhaqsumir_block
abbrev pub block_numbers_table : List ℕ → List ℕ → List ℕ → List Row
block_numbers_table ns samples list = panel_table ns ++ (sample_rows samples ++ row 8 (ListShort (chain_of ns) samples list) ∷ [])
