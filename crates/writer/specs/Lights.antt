-- Document 02, C-17, "no sleep with the lights on": the nearest earlier reset or system word of a chip in a list, and the sleep words that
-- may not stand where they do.
-- Assumes nothing.
use Rattle.std.specs.Prelude.{ℕ, zero, suc, ◌+◌, ◌*◌, ◌/◌, ◌%◌, Bool, true, false, not, ◌||◌, List, get_or}
use Rattle.base.specs.Pick.{pick}
use Rattle.base.specs.Refusals.{Told, done, refused}
use Rattle.word.specs.declared.Command.{Command}
use Rattle.word.specs.declared.Command.TheVariants.{NoOperation, BarLevel, SegmentClear, SegmentSet, Reset, Sleep, ShiftLeft, ShiftRight, RotateLeft, RotateRight, CustomCharacter, SystemParameters, DisplayParameters, BlinkByte, ReadKey, LoadDigit}
use Rattle.word.specs.Words.{decoded_of}
use Rattle.writer.specs.declared.lights.Lights.{Lights}
use Rattle.writer.specs.declared.lights.Lights.TheVariants.{Off, On, Asleep, Unsaid}

-- what is said of a chip's display and keypad: both off; not both off; nothing, but the chip is put to sleep; nothing
pub data Said : Type 0 where
  off : Said
  on : Said
  asleep : Said
  unsaid : Said

-- the value of each case of the code's enum
abbrev pub said_in : Lights → Said
said_in Off = off
said_in On = on
said_in Asleep = asleep
said_in Unsaid = unsaid

-- system parameters with KEYB 0 and DISP 0 say that display and keypad are off, others that they are not both off
abbrev pub said_by_bits : Bool → Bool → Said
said_by_bits keyb disp = pick (keyb || disp) on off

-- what a command says: a reset, off; system parameters by their bits; sleep puts the chip to sleep; any other says nothing
abbrev pub said_by_command : Command → Said
said_by_command NoOperation = unsaid
said_by_command (BarLevel level) = unsaid
said_by_command (SegmentClear addr) = unsaid
said_by_command (SegmentSet addr) = unsaid
said_by_command Reset = off
said_by_command Sleep = asleep
said_by_command ShiftLeft = unsaid
said_by_command ShiftRight = unsaid
said_by_command RotateLeft = unsaid
said_by_command RotateRight = unsaid
said_by_command (CustomCharacter shape) = unsaid
said_by_command (SystemParameters s) = said_by_bits s.keyb s.disp
said_by_command (DisplayParameters d) = unsaid
said_by_command (BlinkByte byte) = unsaid
said_by_command ReadKey = unsaid
said_by_command (LoadDigit dig byte) = unsaid

-- what a word says, by what it means; an unlisted one says nothing
abbrev pub said_by_meaning : Told Command → Said
said_by_meaning (done command) = said_by_command command
said_by_meaning (refused number place) = unsaid

-- whether display and keypad are off after a word, given whether they were before it; sleep words count as neither
abbrev pub off_after : Said → Bool → Bool
off_after off before = true
off_after on before = false
off_after asleep before = before
off_after unsaid before = before

-- whether chip k's nearest reset or system word in the rows before a row, chip 0 first in each row, exists and is a reset or has KEYB 0
-- and DISP 0
unfoldable pub off_before : ℕ → List ℕ → ℕ → ℕ → Bool
off_before n ws k zero = false
off_before n ws k (suc row) = off_after (said_by_meaning (decoded_of (get_or ws (row * n + k) 0))) (off_before n ws k row)

-- whether a sleep word may stand at a place of the list
abbrev pub may_sleep : ℕ → List ℕ → ℕ → Bool
may_sleep n ws place = off_before n ws (place % n) (place / n)

-- whether a word is sleep where none may stand
abbrev pub lit_sleep : Said → Bool → Bool
lit_sleep off may = false
lit_sleep on may = false
lit_sleep asleep may = not may
lit_sleep unsaid may = false
