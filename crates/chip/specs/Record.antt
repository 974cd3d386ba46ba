-- Document 01, "Samples and edges": a chip's parts; refusal 12's chip part; a chip as the capture text starts it; a chip with one thing
-- exchanged, part by part.
-- Assumes nothing.
use Rattle.std.specs.Prelude.{ℕ, Bool, true, false, ◌&&◌, ◌||◌, List, [], ◌∷◌, eqb, leb}
use Rattle.word.specs.declared.System.{System}
use Rattle.word.specs.declared.Display.{Display}
use Rattle.chip.specs.declared.Readout.{Readout}
use Rattle.chip.specs.declared.LineParts.{LineParts}
use Rattle.chip.specs.declared.Settings.{Settings}
use Rattle.chip.specs.declared.Keys.{Keys}
use Rattle.chip.specs.declared.Chip.{Chip}

-- the last scan that is no address
abbrev pub none : ℕ
none = 64

-- what a LOAD rise or a scan alone can change: settings, display and key record
pub record Body : Type 0 where
  pub settings : Settings
  pub digits : List ℕ
  pub keys : Keys

abbrev pub body_of : Chip → Body
body_of c = record { settings = c.settings; digits = c.digits; keys = c.keys }

-- a readout of a code above 127 or with over 7 bits left is refused; with none left there is no readout
abbrev pub valid_readout : Readout → Bool
valid_readout r = leb r.left 7 && (eqb r.left 0 || leb r.code 127)

-- refusal 12's chip part, by parts. LineParts parts: register and readout
abbrev pub valid_line : LineParts → Bool
valid_line l = leb l.register 4095 && valid_readout l.readout

-- settings: custom and limit
abbrev pub valid_settings : Settings → Bool
valid_settings s = leb s.custom 127 && leb s.display.limit 7

-- key record: code and last scan
abbrev pub valid_keys : Keys → Bool
valid_keys k = leb k.code 127 && leb k.last none

-- every part is what a chip can hold
unfoldable pub valid : Chip → Bool
valid c = valid_line c.line && valid_settings c.settings && valid_keys c.keys

-- settings as a reset leaves them: every bit 0, awake
abbrev pub reset_settings : Settings
reset_settings =
    record {
      system = record { intm = false; sspd = false; dplr = false; keyb = false; disp = false };
      display = record { mode = false; limit = 0 };
      blink = 0;
      custom = 0;
      sleeping = false;
    }

-- eight digits of 00H
abbrev pub blank : List ℕ
blank = 0 ∷ 0 ∷ 0 ∷ 0 ∷ 0 ∷ 0 ∷ 0 ∷ 0 ∷ []

-- a key record as a reset leaves it: code 0, no interrupt, last scan none
abbrev pub reset_keys : Keys
reset_keys = record { code = 0; interrupt = false; last = none }

-- a chip as the capture text starts it: reset, a zero register and a latch of 1
abbrev pub reset_chip : Chip
reset_chip =
    record {
      line = record { register = 0; latch = true; readout = record { code = 0; left = 0 } };
      settings = reset_settings;
      digits = blank;
      keys = reset_keys;
    }

-- ---- a chip with one part exchanged

abbrev pub with_line : LineParts → Chip → Chip
with_line l c = record { line = l; settings = c.settings; digits = c.digits; keys = c.keys }

abbrev pub with_settings : Settings → Chip → Chip
with_settings s c = record { line = c.line; settings = s; digits = c.digits; keys = c.keys }

abbrev pub with_digits : List ℕ → Chip → Chip
with_digits ds c = record { line = c.line; settings = c.settings; digits = ds; keys = c.keys }

abbrev pub with_keys : Keys → Chip → Chip
with_keys ks c = record { line = c.line; settings = c.settings; digits = c.digits; keys = ks }

-- ---- line parts

-- so many bits of a code left to read out; the register and the latch stay
abbrev pub with_readout : ℕ → ℕ → Chip → Chip
with_readout code left c =
    with_line (record { register = c.line.register; latch = c.line.latch; readout = record { code = code; left = left } }) c

-- the readout is over: no bits left
abbrev pub ended_readout : Chip → Chip
ended_readout c = with_readout c.line.readout.code 0 c

-- ---- settings

-- settings of the five things that they are
abbrev settings : System → Display → ℕ → ℕ → Bool → Settings
settings s d b v mark = record { system = s; display = d; blink = b; custom = v; sleeping = mark }

abbrev pub with_system : System → Chip → Chip
with_system s c = with_settings (settings s c.settings.display c.settings.blink c.settings.custom c.settings.sleeping) c

abbrev pub with_display : Display → Chip → Chip
with_display d c = with_settings (settings c.settings.system d c.settings.blink c.settings.custom c.settings.sleeping) c

abbrev pub with_blink : ℕ → Chip → Chip
with_blink byte c = with_settings (settings c.settings.system c.settings.display byte c.settings.custom c.settings.sleeping) c

abbrev pub with_custom : ℕ → Chip → Chip
with_custom shape c = with_settings (settings c.settings.system c.settings.display c.settings.blink shape c.settings.sleeping) c

abbrev pub with_sleeping : Bool → Chip → Chip
with_sleeping mark c = with_settings (settings c.settings.system c.settings.display c.settings.blink c.settings.custom mark) c

-- ---- key record

abbrev pub with_interrupt : Bool → Chip → Chip
with_interrupt stands c = with_keys (record { code = c.keys.code; interrupt = stands; last = c.keys.last }) c

abbrev pub with_last : ℕ → Chip → Chip
with_last last c = with_keys (record { code = c.keys.code; interrupt = c.keys.interrupt; last = last }) c
