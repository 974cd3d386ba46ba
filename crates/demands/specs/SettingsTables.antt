-- Document 02, C-16: each refusal's "given exactly when" for the entries of crate settings, as a statement about what an entry was given,
-- and the table of each entry: 3, 9, 8 of `write`; 3, 9 of `rows`; 14, 15 of `read`; 14, 15, 7 of `setup`. A line is of a form exactly when
-- it is that form's bytes written as lines are: upper-case hexadecimal, two digits a byte, ended by 0AH. proofs/ExactSettings.antt and
-- ExactSetup.antt prove that each entry keeps to its table.
-- Assumes nothing.
use Rattle.std.specs.Prelude.{◌≡◌, true, List, [], ◌∷◌, ◌++◌, ℕ, zero, suc, ◌+◌, ◌*◌, ◌-◌, ◌<◌, length}
use Rattle.lines.specs.Lines.{Line, ended, lines_of, as_hex}
use Rattle.settings.specs.declared.Kept.{Kept}
use Rattle.settings.specs.declared.Kiosk.{Kiosk}
use Rattle.settings.specs.Reading.{read_of}
use Rattle.settings.specs.Settings.{newest, first_frame, chip_frame}
use Rattle.demands.specs.Exact.{Row, names, row, each}
use Rattle.demands.specs.Refusals.{NotOneToMost}
use Rattle.demands.specs.Settings.{kept_at}

-- ---- the refusals of `write` and `rows`

-- 9, of a chip's settings: a field is out of range
pub data KeptOut (c : Kept) : Type 0 where
  -- LIMIT above 7
  limit : 7 < c.display.limit → KeptOut c
  -- the blink byte above FFH
  blink : 0xFF < c.blink → KeptOut c
  -- the custom byte above 7FH
  custom : 0x7F < c.custom → KeptOut c

-- 9: so it is for a chip below N
abbrev pub SomeKeptOut : Kiosk → Type 0
SomeKeptOut kiosk = (k : ℕ) × (k < kiosk.n) × KeptOut (kept_at k kiosk)

-- 8: the buffer is shorter than the text, 7 bytes and 13 for each chip
abbrev pub TextShort : Kiosk → List ℕ → Type 0
TextShort kiosk out = length out < 7 + 13 * kiosk.n

-- settings::rows
abbrev pub settings_rows_table : Kiosk → List Row
settings_rows_table kiosk = row 3 (NotOneToMost kiosk.n) ∷ row 9 (SomeKeptOut kiosk) ∷ []

-- settings::write
abbrev pub settings_write_table : Kiosk → List ℕ → List Row
settings_write_table kiosk out = settings_rows_table kiosk ++ row 8 (TextShort kiosk out) ∷ []

-- ---- 14

-- a text begins with 20 and a version byte, whatever follows
abbrev pub BeginsWithVersion : List ℕ → ℕ → Type 0
BeginsWithVersion text version = (rest : List ℕ) × (text ≡ as_hex (0x20 ∷ version ∷ []) ++ rest)

-- so many versions from one on; the version is the place named
unfoldable pub version_rows : List ℕ → ℕ → ℕ → List Row
version_rows text zero version = []
version_rows text (suc more) version = names 14 version (BeginsWithVersion text version) ∷ version_rows text more (suc version)

-- 14: a version above the newest, up to FFH
abbrev pub newer_rows : List ℕ → List Row
newer_rows text = version_rows text (0xFF - newest) (suc newest)

-- ---- 15

-- the first line of settings of N chips: 20, the version, N; N is 1 to 8
abbrev pub FirstSettingsLine : Line → ℕ → Type 0
FirstSettingsLine l n = (NotOneToMost n → ⊥) × (l ≡ ended (as_hex (first_frame n)))

-- it is of that form, whatever N
abbrev pub SomeFirstLine : Line → Type 0
SomeFirstLine l = (n : ℕ) × FirstSettingsLine l n

-- chip k's line: 21, chip, system, display, blink and custom byte of settings with no field out of range
abbrev pub ChipLine : ℕ → Line → Type 0
ChipLine k l = (c : Kept) × (KeptOut c → ⊥) × (l ≡ ended (as_hex (chip_frame k c)))

-- a line after the first is that of chip k, which is below the N that the first gave
abbrev pub OwnLine : Line → ℕ → Line → Type 0
OwnLine first k l = (n : ℕ) × FirstSettingsLine first n × (k < n) × ChipLine k l

-- the line of a chip below that N is missing: only so many lines follow the first
abbrev pub LineMissing : Line → ℕ → Type 0
LineMissing first lines = (n : ℕ) × FirstSettingsLine first n × (lines < n)

-- 15: the line where chip k's is due isn't that; a line past the last chip's is none
abbrev pub chip_line_row : Line → ℕ → Line → List Row
chip_line_row first k l = names 15 (k + 2) (OwnLine first k l → ⊥) ∷ []

-- 15: the line after the last is missing
abbrev pub missing_row : Line → ℕ → Row
missing_row first lines = names 15 (lines + 2) (LineMissing first lines)

-- 15: lines from the first on, the first missing included; lines are numbered from 1
abbrev pub settings_rows : List Line → List Row
settings_rows [] = names 15 1 (Unit {0}) ∷ []
settings_rows (first ∷ ls) = names 15 1 (SomeFirstLine first → ⊥) ∷ (each (chip_line_row first) 0 ls ++ missing_row first (length ls) ∷ [])

-- settings::read: 14 before 15
abbrev pub settings_read_table : List ℕ → List Row
settings_read_table text = newer_rows text ++ settings_rows (lines_of text)

-- ---- the rows of a text

-- 7: chip k isn't the last, and has KEYB 1
abbrev pub KeypadBefore : ℕ → ℕ → Kept → Type 0
KeypadBefore n k c = (k + 1 < n) × (c.system.keyb ≡ true)

-- 7, of settings of N chips: the chip is the place named
abbrev pub keypad_row : ℕ → ℕ → Kept → List Row
keypad_row n k c = names 7 k (KeypadBefore n k c) ∷ []

-- so of chips from the first on
abbrev pub keypad_rows : Kiosk → List Row
keypad_rows kiosk = each (keypad_row kiosk.n) 0 kiosk.chips

-- settings::setup: a text's own refusals, and then, of the settings that it gives, the writer's 7
abbrev pub settings_setup_table : List ℕ → List Row
settings_setup_table text = settings_read_table text ++ keypad_rows (read_of text).state
