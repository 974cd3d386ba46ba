-- Document 02, C-16, "Turning settings into rows for the writer must, by demand 3, leave each chip with them": of calls by their contracts
-- alone, as in specs/Whole.antt.
--     settings_of           a chip's settings as they are kept, awake
--     AskedKiosk           what is asked of the settings of a panel
--     KeypadAtMostLast     KEYB 1 at most on the last chip
--     SettingsSet          the rows, written and played with any scans between, leave each chip with its settings
--     SettingsAccepted     the writer accepts the rows where KEYB is 1 at most on the last chip, SettingsAcceptedOnly nowhere else
--     KeypadRefused        elsewhere it refuses them with 7, at the lowest chip before the last that has KEYB 1
-- Assumes nothing.
use Rattle.std.specs.Prelude.{◌≡◌, true, false, List, ℕ, ◌+◌, ◌*◌, ◌≤◌, ◌<◌, length, get_or, take}
use Rattle.base.specs.Refusals.{done, refused, tells}
use Rattle.chip.specs.declared.Chip.{Chip}
use Rattle.chip.specs.declared.Settings.{Settings}
use Rattle.chain.specs.declared.Chain.{Chain}
use Rattle.chain.specs.Chain.{most}
use Rattle.chain.specs.Entries.{chip_at}
use Rattle.chain.specs.Events.{ScansBelow}
use Rattle.settings.specs.declared.Kept.{Kept}
use Rattle.settings.specs.declared.Kiosk.{Kiosk}
use Rattle.settings.specs.Printing.{kiosk_words}
use Rattle.settings.specs.Putting.{settings_test}
use Rattle.settings.specs.Settings.{no_kept}
use Rattle.writer.specs.Rows.{list_test}
use Rattle.writer.specs.Written.{Writes}
use Rattle.demands.specs.Demand3.{AskedChain}
use Rattle.demands.specs.Calls.{Call, events_of, blocks_of, Ran}
use Rattle.std.specs.declared.result.Result.{Result}
use Rattle.base.specs.declared.Refusal.{Refusal}
use Rattle.std.specs.declared.result.Result.TheVariants.{Ok}

-- ---- settings

-- a chip's settings as they are kept, awake: the text has no sleeping mark
abbrev pub settings_of : Kept → Settings
settings_of c = record { system = c.system; display = c.display; blink = c.blink; custom = c.custom; sleeping = false }

-- those of chip k
abbrev pub kept_at : ℕ → Kiosk → Kept
kept_at k kiosk = get_or kiosk.chips k no_kept

-- what is asked of the settings of a panel
pub record AskedKiosk (kiosk : Kiosk) : Type 0 where
  -- the record of a panel always holds the most
  pub places : length kiosk.chips ≡ most
  -- 1 to 8 chips, and no field of theirs out of range
  pub legal : settings_test kiosk ≡ done tt

-- KEYB 1 at most on the last chip
abbrev pub KeypadAtMostLast : Kiosk → Type 0
KeypadAtMostLast kiosk = (k : ℕ) → k + 1 < kiosk.n → (kept_at k kiosk).system.keyb ≡ false

-- chip k is the lowest before the last that has KEYB 1
pub record KeypadEarly (kiosk : Kiosk) (k : ℕ) : Type 0 where
  pub not_last : k + 1 < kiosk.n
  pub on : (kept_at k kiosk).system.keyb ≡ true
  pub lowest : (j : ℕ) → j < k → (kept_at j kiosk).system.keyb ≡ false

-- ---- by demand 3

-- a chip ends with settings, awake; its digits are as they were
pub record EndsWith (kept : Kept) (before end : Chip) : Type 0 where
  pub settings : end.settings ≡ settings_of kept
  pub digits : end.digits ≡ before.digits

-- on any panel that demand 3 asks for; rows that the writer accepts, which SettingsAccepted speaks of
abbrev pub SettingsSet : Type 0
SettingsSet =
    (kiosk : Kiosk) → AskedKiosk kiosk
    → (ch : Chain) → AskedChain kiosk.n ch
    → (out out' : List ℕ) (r : Result ℕ Refusal) (count : ℕ)
    → Writes kiosk.n (kiosk_words kiosk) out r out'
    → r ≡ Ok count
    → (calls : List Call)
    → ScansBelow kiosk.n (events_of calls)
    → blocks_of calls ≡ take count out'
    → (ch' : Chain) → Ran kiosk.n ch calls ch'
    → (k : ℕ) → k < kiosk.n
    → EndsWith (kept_at k kiosk) (chip_at k ch) (chip_at k ch')

-- ---- the writer

-- how many samples four rows are
abbrev pub setup_samples : ℕ → ℕ
setup_samples n = 4 * (24 * n + 2)

-- the rows are accepted, and `write` writes them where the buffer has room
pub record Accepts (kiosk : Kiosk) : Type 0 where
  pub list : list_test kiosk.n (kiosk_words kiosk) ≡ done tt
  pub answer : (out out' : List ℕ) (r : Result ℕ Refusal) → Writes kiosk.n (kiosk_words kiosk) out r out'
      → setup_samples kiosk.n ≤ length out
      → r ≡ Ok (setup_samples kiosk.n)

abbrev pub SettingsAccepted : Type 0
SettingsAccepted = (kiosk : Kiosk) → AskedKiosk kiosk → KeypadAtMostLast kiosk → Accepts kiosk

-- and where the rows are accepted, KEYB is 1 at most on the last chip
abbrev pub SettingsAcceptedOnly : Type 0
SettingsAcceptedOnly = (kiosk : Kiosk) → AskedKiosk kiosk → list_test kiosk.n (kiosk_words kiosk) ≡ done tt → KeypadAtMostLast kiosk

-- the rows are refused with 7 at chip k, whatever the buffer
pub record RefusesKeypad (kiosk : Kiosk) (k : ℕ) : Type 0 where
  pub list : list_test kiosk.n (kiosk_words kiosk) ≡ refused 7 k
  pub answer : (out out' : List ℕ) (r : Result ℕ Refusal) → Writes kiosk.n (kiosk_words kiosk) out r out' → tells r ≡ refused 7 k

abbrev pub KeypadRefused : Type 0
KeypadRefused = (kiosk : Kiosk) → AskedKiosk kiosk → (k : ℕ) → KeypadEarly kiosk k → RefusesKeypad kiosk k
