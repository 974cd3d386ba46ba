-- Document 02, C-16: the settings of a panel; its text, one frame a line; and the rows that set a panel to them.
-- Assumes nothing.
use Rattle.std.specs.Prelude.{ℕ, ◌+◌, ◌*◌, ◌%◌, Bool, false, ◌&&◌, List, [], ◌∷◌, ◌++◌, map, replicate, take}
use Rattle.base.specs.Below.{every}
use Rattle.base.specs.Bits.{bit_value}
use Rattle.word.specs.declared.Command.{Command}
use Rattle.word.specs.declared.Command.TheVariants.{CustomCharacter, SystemParameters, DisplayParameters, BlinkByte}
use Rattle.word.specs.declared.Display.{Display}
use Rattle.word.specs.declared.System.{System}
use Rattle.word.specs.Words.{word_of, legal}
use Rattle.chain.specs.Chain.{most}
use Rattle.lines.specs.Lines.{line_for, lines_at}
use Rattle.settings.specs.declared.Kept.{Kept}
use Rattle.settings.specs.declared.Kiosk.{Kiosk}
use Rattle.settings.specs.declared.Part.{Part}
use Rattle.settings.specs.declared.Part.TheVariants as Parts

-- ---- versions

-- the newest version of a text
abbrev pub newest : ℕ
newest = 0x01

-- the version that a text of N chips has
unfoldable pub version_for : ℕ → ℕ
version_for n = 0x01

-- ---- settings

-- no settings: zeros
abbrev pub no_kept : Kept
no_kept =
    record {
      system = record { intm = false; sspd = false; dplr = false; keyb = false; disp = false };
      display = record { mode = false; limit = 0 };
      blink = 0;
      custom = 0;
    }

-- of as many chips as a record has
abbrev pub no_kepts : List Kept
no_kepts = replicate most no_kept

-- a panel's, of no chips
abbrev pub no_kiosk : Kiosk
no_kiosk = record { n = 0; chips = no_kepts }

-- the chips below N: no others are looked at
abbrev pub kept_in : Kiosk → List Kept
kept_in kiosk = take kiosk.n kiosk.chips

-- the command that sets a part of a chip's settings
abbrev pub command_for : Part → Kept → Command
command_for Parts.System c = SystemParameters c.system
command_for Parts.Display c = DisplayParameters c.display
command_for Parts.Blink c = BlinkByte c.blink
command_for Parts.Custom c = CustomCharacter c.custom

-- no field of a chip's settings is out of range
abbrev pub legal_kept : Kept → Bool
legal_kept c =
    legal (command_for Parts.System c) && legal (command_for Parts.Display c) && legal (command_for Parts.Blink c) && legal (command_for Parts.Custom c)

-- nor of any chip's
abbrev pub all_legal : List Kept → Bool
all_legal cs = every legal_kept cs

-- ---- the text

-- the system byte: its word's low eight bits
abbrev pub system_byte : System → ℕ
system_byte s = word_of (SystemParameters s) % 256

-- the display byte: MODE·8 + LIMIT
abbrev pub display_byte : Display → ℕ
display_byte d = 8 * bit_value d.mode + d.limit

-- first 20, version, N
abbrev pub first_frame : ℕ → List ℕ
first_frame n = 0x20 ∷ version_for n ∷ n ∷ []

-- then per chip 21, chip, system byte, display byte, blink byte, custom byte
abbrev pub chip_frame : ℕ → Kept → List ℕ
chip_frame k c = 0x21 ∷ k ∷ system_byte c.system ∷ display_byte c.display ∷ c.blink ∷ c.custom ∷ []

-- one frame a line
abbrev pub chip_line : ℕ → Kept → List ℕ
chip_line k c = line_for (chip_frame k c)

-- chips in rising order, from chip k on
abbrev pub chip_lines : ℕ → List Kept → List ℕ
chip_lines k cs = lines_at chip_line k cs

-- the text of settings
unfoldable pub text_of : Kiosk → List ℕ
text_of kiosk = line_for (first_frame kiosk.n) ++ chip_lines 0 (kept_in kiosk)

-- ---- the rows

-- one row for each part: chip 0 first
abbrev pub row_for : Part → List Kept → List ℕ
row_for part cs = map (λ c. word_of (command_for part c)) cs

-- system, display, blink, custom, in that order
unfoldable pub words_of : List Kept → List ℕ
words_of cs = row_for Parts.System cs ++ row_for Parts.Display cs ++ row_for Parts.Blink cs ++ row_for Parts.Custom cs
