-- Document 01, "What commands do": each command's effect on a chip, what a LOAD rise does with any register, and DOUT.
-- Assumes nothing.
use Rattle.std.specs.Prelude.{ℕ, ◌+◌, ◌*◌, ◌-◌, Bool, true, false, not, List, [], ◌∷◌, eqb, ltb, get_or, set}
use Rattle.base.specs.Pick.{pick}
use Rattle.base.specs.Bits.{bit, byte_of}
use Rattle.base.specs.Refusals.{Told, done, refused}
use Rattle.word.specs.declared.System.{System}
use Rattle.word.specs.declared.Command.{Command}
use Rattle.word.specs.declared.Command.TheVariants.{NoOperation, BarLevel, SegmentClear, SegmentSet, Reset, Sleep, ShiftLeft, ShiftRight, RotateLeft, RotateRight, CustomCharacter, SystemParameters, DisplayParameters, BlinkByte, ReadKey, LoadDigit}
use Rattle.chip.specs.declared.Chip.{Chip}
use Rattle.chip.specs.Record.{none, reset_settings, blank, reset_keys, with_settings, with_digits, with_keys, with_system, with_display, with_blink, with_custom, with_sleeping, with_interrupt, with_last, with_readout, ended_readout}

-- ---- segments by address

-- ADDR = 8·SEG + DIG
abbrev pub address : ℕ → ℕ → ℕ
address seg dig = 8 * seg + dig

-- the digits in which SEG s of DIG d is on as f says
abbrev pub lit : (ℕ → ℕ → Bool) → List ℕ
lit f =
    byte_of (λ s. f s 0) ∷ byte_of (λ s. f s 1) ∷ byte_of (λ s. f s 2) ∷ byte_of (λ s. f s 3) ∷ byte_of (λ s. f s 4) ∷ byte_of (λ s. f s 5) ∷ byte_of (λ s. f s 6) ∷ byte_of (λ s. f s 7) ∷ []

-- bar level L: address a is lit exactly when a < L, over all 64
unfoldable pub bar : ℕ → List ℕ
bar level = lit (λ s d. ltb (address s d) level)

-- one segment made on or off, the others as they were
unfoldable pub segment : Bool → ℕ → List ℕ → List ℕ
segment on addr ds = lit (λ s d. pick (eqb (address s d) addr) on (bit (get_or ds d 0) s))

-- ---- moving the digits

-- left: DIG d goes to DIG d+1, and DIG0 is filled
abbrev pub moved_left : ℕ → List ℕ → List ℕ
moved_left fill ds = fill ∷ get_or ds 0 0 ∷ get_or ds 1 0 ∷ get_or ds 2 0 ∷ get_or ds 3 0 ∷ get_or ds 4 0 ∷ get_or ds 5 0 ∷ get_or ds 6 0 ∷ []

-- right: the other way, and DIG7 is filled
abbrev pub moved_right : ℕ → List ℕ → List ℕ
moved_right fill ds = get_or ds 1 0 ∷ get_or ds 2 0 ∷ get_or ds 3 0 ∷ get_or ds 4 0 ∷ get_or ds 5 0 ∷ get_or ds 6 0 ∷ get_or ds 7 0 ∷ fill ∷ []

-- ---- commands

-- reset: digits, custom, system, display and blink bits 0, key code 0, no interrupt, last scan none, awake, readout ended
unfoldable pub reset : Chip → Chip
reset c = ended_readout (with_settings reset_settings (with_digits blank (with_keys reset_keys c)))

-- system parameters; KEYB = 0 also clears the interrupt, sets the last scan to none and ends the readout
unfoldable pub system : System → Chip → Chip
system s c =
    let d = with_system s c in
    pick s.keyb d (ended_readout (with_last none (with_interrupt false d)))

-- read key with KEYB on clears the interrupt and starts a readout of the code held at that moment; with KEYB off it does nothing
unfoldable pub read_key : Chip → Chip
read_key c = pick c.settings.system.keyb (with_interrupt false (with_readout c.keys.code 7 c)) c

-- what a command does to a chip that is awake
unfoldable pub obey : Command → Chip → Chip
obey NoOperation c = c
obey (BarLevel level) c = with_digits (bar level) c
obey (SegmentClear addr) c = with_digits (segment false addr c.digits) c
obey (SegmentSet addr) c = with_digits (segment true addr c.digits) c
obey Reset c = reset c
obey Sleep c = with_sleeping true c
obey ShiftLeft c = with_digits (moved_left 0 c.digits) c
obey ShiftRight c = with_digits (moved_right 0 c.digits) c
obey RotateLeft c = with_digits (moved_left (get_or c.digits 7 0) c.digits) c
obey RotateRight c = with_digits (moved_right (get_or c.digits 0 0) c.digits) c
obey (CustomCharacter shape) c = with_custom shape c
obey (SystemParameters s) c = system s c
obey (DisplayParameters d) c = with_display d c
obey (BlinkByte byte) c = with_blink byte c
obey ReadKey c = read_key c
obey (LoadDigit dig byte) c = with_digits (set c.digits dig byte) c

-- any LOAD rise first wakes the chip and ends a readout
abbrev pub woken : Chip → Chip
woken c = ended_readout (with_sleeping false c)

-- a command applied directly, as a LOAD rise applies it
unfoldable pub applied : Command → Chip → Chip
applied command c = obey command (woken c)

-- what a LOAD rise does with a word: an unlisted word only wakes the chip and ends a readout
abbrev pub applied_word : Told Command → Chip → Chip
applied_word (done command) c = applied command c
applied_word (refused number place) c = woken c

-- ---- DOUT

-- DOUT: with KEYB off the latch; with KEYB on a readout's next bit, else low if an interrupt stands
abbrev pub shows : Bool → Bool → Bool → ℕ → ℕ → Bool
shows keyb latch interrupt code left = pick keyb (pick (eqb left 0) (not interrupt) (bit code (left - 1))) latch

unfoldable pub dout : Chip → Bool
dout c = shows c.settings.system.keyb c.line.latch c.keys.interrupt c.line.readout.code c.line.readout.left
