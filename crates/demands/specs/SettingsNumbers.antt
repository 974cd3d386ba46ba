-- Document 02, C-16, for the library that C links: each refusal's "given exactly when" where a kiosk's settings are given as 73 numbers, the
-- tables of those entries, that a refusal changes nothing, and that what was read is written again. The table of `zhaqsumir_settings_read`
-- is that of `settings::read`, `settings_read_table` of specs/SettingsTables.antt. proofs/ExactSettingsNumbers.antt has the theorems.
--     KeptNumberOut, SomeNumberOut             9: a number out of its field's range
--     SettingsNumbersRefusalsChangeNothing     a refusal changes nothing, entry by entry
--     ReadThenWrite                            the text comes back from the numbers that it was read as
--     NumbersAsked                             numbers that pass the tests stand for settings of which demand 3's theorem speaks
-- Assumes nothing.
use Rattle.std.specs.Prelude.{◌≡◌, List, [], ◌∷◌, ◌++◌, ℕ, ◌+◌, ◌*◌, ◌≤◌, ◌<◌, length, get_or, drop, replicate}
use Rattle.base.specs.Lent.{laid}
use Rattle.base.specs.Refusals.{done}
use Rattle.zhaqsumir.specs.Panels.{count_in}
use Rattle.zhaqsumir.specs.Settings.{from_kept, settings_tested, kiosk_of, read_numbers, WritesSettings, FillsWords}
use Rattle.demands.specs.Exact.{Row, row}
use Rattle.demands.specs.Refusals.{NotOneToMost}
use Rattle.demands.specs.Settings.{AskedKiosk}
use Rattle.demands.specs.Unchanged.{Refuses}
use Rattle.demands.specs.WiresUnchanged.{Leaves}

-- ---- 9

-- of the nine numbers of a chip: one is out of its field's range
pub data KeptNumberOut (ns : List ℕ) : Type 0 where
  -- INTM, SSPD, DPLR, KEYB, DISP, MODE
  bit : (j : ℕ) → j < 6 → 1 < get_or ns j 0 → KeptNumberOut ns
  limit : 7 < get_or ns 6 0 → KeptNumberOut ns
  blink : 255 < get_or ns 7 0 → KeptNumberOut ns
  custom : 127 < get_or ns 8 0 → KeptNumberOut ns

-- so it is for a chip below N; chips from N on are not looked at
abbrev pub SomeNumberOut : List ℕ → Type 0
SomeNumberOut ns = (k : ℕ) × (k < count_in ns) × KeptNumberOut (from_kept k ns)

-- ---- 8

-- the buffer is shorter than the text, 7 bytes and 13 for each chip
abbrev pub NumbersTextShort : List ℕ → List ℕ → Type 0
NumbersTextShort ns out = length out < 7 + 13 * count_in ns

-- ---- the tables

-- zhaqsumir::kiosks::zhaqsumir_settings_rows
abbrev pub rows_numbers_table : List ℕ → List Row
rows_numbers_table ns = row 3 (NotOneToMost (count_in ns)) ∷ row 9 (SomeNumberOut ns) ∷ []

-- zhaqsumir::kiosks::zhaqsumir_settings_write
abbrev pub write_numbers_table : List ℕ → List ℕ → List Row
write_numbers_table ns out = rows_numbers_table ns ++ row 8 (NumbersTextShort ns out) ∷ []

-- ---- a refusal changes nothing

pub record SettingsNumbersRefusalsChangeNothing : Type 0 where
  -- zeros after the refusal's number and place
  pub read : (text answer : List ℕ) → answer ≡ read_numbers text → Refuses answer (replicate 73 0)
  -- a zero, and every byte of the buffer, or word of the array, is as it was
  pub write : (ns out answer out' : List ℕ) → WritesSettings ns out answer out' → Leaves answer out out'
  pub rows : (ns words answer words' : List ℕ) → FillsWords ns words answer words' → Leaves answer words words'

-- ---- back and forth

-- where a text was read, the 73 numbers given to the writer give its own bytes, where these fit
abbrev pub ReadThenWrite : Type 0
ReadThenWrite =
    (text out answer out' : List ℕ) → get_or (read_numbers text) 0 0 ≡ 0 → WritesSettings (drop 2 (read_numbers text)) out answer out' → length text ≤ length out
    → (answer ≡ 0 ∷ 0 ∷ length text ∷ []) × (out' ≡ laid text out)

-- the settings that numbers stand for are asked for by `SettingsSet` of specs/Settings.antt: their rows leave each chip with them
abbrev pub NumbersAsked : Type 0
NumbersAsked = (ns : List ℕ) → settings_tested ns ≡ done tt → AskedKiosk (kiosk_of ns)
