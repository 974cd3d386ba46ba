-- Kiosk settings as numbers (document 02, C-16), and what the three functions for them do. Answers are as in specs/Numbers.antt; settings
-- are 73 numbers: N, then nine for each of eight chips.
-- Assumes nothing.
use Rattle.std.specs.Prelude.{◌≡◌, ℕ, ◌+◌, ◌*◌, Bool, List, [], ◌∷◌, leb, get_or, drop}
use Rattle.base.specs.Below.{below}
use Rattle.base.specs.Bits.{bit_value}
use Rattle.base.specs.Pick.{pick}
use Rattle.base.specs.Refusals.{Told, done, refused, Outcome}
use Rattle.chain.specs.Chain.{chip_count}
use Rattle.lines.specs.Lines.{lines_at}
use Rattle.settings.specs.declared.Kept.{Kept}
use Rattle.settings.specs.declared.Kiosk.{Kiosk}
use Rattle.settings.specs.Printing.{kiosk_words}
use Rattle.settings.specs.Putting.{answer_by, buffer_by}
use Rattle.settings.specs.Reading.{read_of}
use Rattle.settings.specs.Settings.{text_of}
use Rattle.zhaqsumir.specs.Numbers.{number_in, place_in, alone}
use Rattle.zhaqsumir.specs.Panels.{byte_at, bit_at, count_in}

-- ---- a chip's settings as nine numbers: INTM, SSPD, DPLR, KEYB, DISP, MODE, LIMIT, blink byte, custom character

-- the most that each of them can be
abbrev pub kept_mosts : List ℕ
kept_mosts = 1 ∷ 1 ∷ 1 ∷ 1 ∷ 1 ∷ 1 ∷ 7 ∷ 255 ∷ 127 ∷ []

-- the number at a place is no more than that
abbrev pub kept_fits_at : List ℕ → ℕ → Bool
kept_fits_at ns j = leb (get_or ns j 0) (get_or kept_mosts j 0)

-- so is each of the nine
unfoldable pub kept_fits : List ℕ → Bool
kept_fits ns = below (kept_fits_at ns) 9

-- the settings that the nine numbers at the front of a list stand for
unfoldable pub kept_of : List ℕ → Kept
kept_of ns =
    record {
      system = record { intm = bit_at ns 0; sspd = bit_at ns 1; dplr = bit_at ns 2; keyb = bit_at ns 3; disp = bit_at ns 4 };
      display = record { mode = bit_at ns 5; limit = byte_at ns 6 };
      blink = byte_at ns 7;
      custom = byte_at ns 8;
    }

-- the numbers of a chip's settings
abbrev pub kept_numbers : Kept → List ℕ
kept_numbers c =
    bit_value c.system.intm
    ∷ bit_value c.system.sspd
    ∷ bit_value c.system.dplr
    ∷ bit_value c.system.keyb
    ∷ bit_value c.system.disp
    ∷ bit_value c.display.mode
    ∷ c.display.limit
    ∷ c.blink
    ∷ c.custom
    ∷ []

-- ---- a panel's as 73 numbers: N, eight chips

-- the numbers of chip k, and all after them
abbrev pub from_kept : ℕ → List ℕ → List ℕ
from_kept k ns = drop (1 + 9 * k) ns

-- the numbers of chip k fit
abbrev pub kept_fits_in : List ℕ → ℕ → Bool
kept_fits_in ns k = kept_fits (from_kept k ns)

-- N is 1 to 8, and each number of a chip below N is in its field's range: refusals 3, 9
unfoldable pub settings_tested : List ℕ → Told (Unit {0})
settings_tested ns = pick (chip_count (count_in ns)) (pick (below (kept_fits_in ns) (count_in ns)) (done tt) (refused 9 0)) (refused 3 0)

-- the settings of chip k
abbrev pub kept_in : List ℕ → ℕ → Kept
kept_in ns k = kept_of (from_kept k ns)

-- the settings that the numbers stand for; those of chips from N on are not looked at
unfoldable pub kiosk_of : List ℕ → Kiosk
kiosk_of ns =
    record {
      n = count_in ns;
      chips = kept_in ns 0 ∷ kept_in ns 1 ∷ kept_in ns 2 ∷ kept_in ns 3 ∷ kept_in ns 4 ∷ kept_in ns 5 ∷ kept_in ns 6 ∷ kept_in ns 7 ∷ [];
    }

-- the numbers of chips, one after another
abbrev pub chips_numbers : List Kept → List ℕ
chips_numbers cs = lines_at (λ k c. kept_numbers c) 0 cs

-- the numbers of settings
abbrev pub kiosk_numbers : Kiosk → List ℕ
kiosk_numbers kiosk = kiosk.n ∷ chips_numbers kiosk.chips

-- ---- read: number, place, 73 numbers

-- the settings, zeros where refused
abbrev pub read_by : Outcome Kiosk (Unit {0}) → List ℕ
read_by o = number_in o.told ∷ place_in o.told ∷ kiosk_numbers o.state

-- what `zhaqsumir_settings_read` answers: refusals 14, 15
abbrev pub read_numbers : List ℕ → List ℕ
read_numbers text = read_by (read_of text)

-- ---- write and rows: number, place, how many bytes or words

-- what they do with their piece, where `ns` are the numbers of the settings: the answer, and the buffer as it is left
pub record PutsNumbers (ns piece out : List ℕ) (answer out' : List ℕ) : Type 0 where
  pub numbers : answer ≡ alone (answer_by (settings_tested ns) piece out)
  pub buffer : out' ≡ buffer_by (answer_by (settings_tested ns) piece out) piece out

-- what `zhaqsumir_settings_write` does: the text; refusals 3, 9, 8
abbrev pub WritesSettings : List ℕ → List ℕ → List ℕ → List ℕ → Type 0
WritesSettings ns out answer out' = PutsNumbers ns (text_of (kiosk_of ns)) out answer out'

-- what `zhaqsumir_settings_rows` does: the words of the rows, into an array that always suffices; refusals 3, 9
abbrev pub FillsWords : List ℕ → List ℕ → List ℕ → List ℕ → Type 0
FillsWords ns words answer words' = PutsNumbers ns (kiosk_words (kiosk_of ns)) words answer words'
