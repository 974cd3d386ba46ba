-- Document 02, C-15, for the library that C links: each refusal's "given exactly when" where a CH450's command or panel is given as
-- numbers, and the tables of those entries. That of `zhaqsumir_ch450_write` is the writer's, `ch450_write_table` of specs/TwoWires.antt.
-- proofs/ExactPanels.antt proves that each entry keeps to its table.
-- Assumes nothing.
use Rattle.std.specs.Prelude.{◌≡◌, ◌⊎◌, List, [], ◌∷◌, ℕ, ◌+◌, ◌^◌, ◌<◌, ◌≤◌, get_or}
use Rattle.zhaqsumir.specs.TwoWires.{panel_of}
use Rattle.demands.specs.Exact.{Row, row}
use Rattle.demands.specs.TwoWires.{KeyAbove127, UnheldPanel, above3_rows}

-- ---- 9, of a command that is given as numbers: a kind and four fields

-- parameters: INTENS is 0 to 3, SLEEP, KEYB and DISP are 0 or 1
abbrev pub ParametersOut : ℕ → ℕ → ℕ → ℕ → Type 0
ParametersOut sleep intens keyb disp = (1 < sleep) ⊎ ((3 < intens) ⊎ ((1 < keyb) ⊎ (1 < disp)))

-- load digit: DIG2 to DIG7, and a byte
abbrev pub DigitOut : ℕ → ℕ → Type 0
DigitOut dig byte = (dig < 2) ⊎ ((7 < dig) ⊎ (255 < byte))

-- there is no such kind, or a field that the kind has is out of range; kind 2, the read, has none
pub data CommandOut (kind a b c d : ℕ) : Type 0 where
  no_kind : 2 < kind → CommandOut kind a b c d
  parameters : kind ≡ 0 → ParametersOut a b c d → CommandOut kind a b c d
  load_digit : kind ≡ 1 → DigitOut a b → CommandOut kind a b c d

-- ---- 12, of a panel that is lent as 14 numbers

-- one is above the most that its place can hold
pub data TooLarge (ns : List ℕ) : Type 0 where
  levels : 3 < get_or ns 0 0 → TooLarge ns
  running : 1 < get_or ns 1 0 → TooLarge ns
  rises : 20 < get_or ns 2 0 → TooLarge ns
  bits : 2 ^ 19 ≤ get_or ns 3 0 → TooLarge ns
  sleep : 1 < get_or ns 4 0 → TooLarge ns
  intens : 3 < get_or ns 5 0 → TooLarge ns
  keyb : 1 < get_or ns 6 0 → TooLarge ns
  disp : 1 < get_or ns 7 0 → TooLarge ns
  -- DIG2 to DIG7
  digit : (k : ℕ) → k < 6 → 255 < get_or ns (8 + k) 0 → TooLarge ns

-- or the panel that they stand for is one that no run can hold
abbrev pub UnheldNumbers : List ℕ → Type 0
UnheldNumbers ns = TooLarge ns ⊎ UnheldPanel (panel_of ns)

-- ---- the tables

-- zhaqsumir::zhaqsumir_ch450_encode
abbrev pub command_numbers_table : ℕ → ℕ → ℕ → ℕ → ℕ → List Row
command_numbers_table kind a b c d = row 9 (CommandOut kind a b c d) ∷ []

-- zhaqsumir::zhaqsumir_ch450_play
abbrev pub play_numbers_table : List ℕ → ℕ → List ℕ → List Row
play_numbers_table ns key samples = row 12 (UnheldNumbers ns) ∷ row 9 (KeyAbove127 key) ∷ above3_rows samples

-- zhaqsumir::zhaqsumir_ch450_lit
abbrev pub lit_numbers_table : List ℕ → List Row
lit_numbers_table ns = row 12 (UnheldNumbers ns) ∷ []
