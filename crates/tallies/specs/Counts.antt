-- C-21, what is counted of one chip, from its history of steps: commands obeyed and scans.
-- Assumes nothing.
use Rattle.std.specs.Prelude.{ℕ, ◌+◌, Bool, not, ◌&&◌, List, [], ◌∷◌}
use Rattle.base.specs.Bits.{bit_value}
use Rattle.word.specs.declared.Command.{Command}
use Rattle.word.specs.declared.Command.TheVariants.{NoOperation, BarLevel, SegmentClear, SegmentSet, Reset, Sleep, ShiftLeft, ShiftRight, RotateLeft, RotateRight, CustomCharacter, SystemParameters, DisplayParameters, BlinkByte, ReadKey, LoadDigit}
use Rattle.chip.specs.declared.Chip.{Chip}
use Rattle.chip.specs.Scans.{Recording, nothing, key_code, over_unread, release_noted, recorded}
use Rattle.chip.specs.History.{Step, told, scan, after}
use Rattle.tallies.specs.declared.Counts.{Counts}

-- codes recorded; read words that found an interrupt; codes recorded over an unread one; interrupts cleared by reset or by KEYB 0
abbrev pub counts : ℕ → ℕ → ℕ → ℕ → Counts
counts recorded read overwritten cleared = record { recorded = recorded; read = read; overwritten = overwritten; cleared = cleared }

abbrev pub no_counts : Counts
no_counts = counts 0 0 0 0

-- counts that go on from others
abbrev pub plus : Counts → Counts → Counts
plus a b = counts (a.recorded + b.recorded) (a.read + b.read) (a.overwritten + b.overwritten) (a.cleared + b.cleared)

-- what a command counts, by KEYB and the interrupt before it: a read word where KEYB is on and an interrupt stands; a reset and a system
-- word with KEYB 0 where an interrupt stands
abbrev pub command_counts : Command → Bool → Bool → Counts
command_counts NoOperation keyb stands = no_counts
command_counts (BarLevel level) keyb stands = no_counts
command_counts (SegmentClear addr) keyb stands = no_counts
command_counts (SegmentSet addr) keyb stands = no_counts
command_counts Reset keyb stands = counts 0 0 0 (bit_value stands)
command_counts Sleep keyb stands = no_counts
command_counts ShiftLeft keyb stands = no_counts
command_counts ShiftRight keyb stands = no_counts
command_counts RotateLeft keyb stands = no_counts
command_counts RotateRight keyb stands = no_counts
command_counts (CustomCharacter shape) keyb stands = no_counts
command_counts (SystemParameters s) keyb stands = counts 0 0 0 (bit_value (not s.keyb && stands))
command_counts (DisplayParameters d) keyb stands = no_counts
command_counts (BlinkByte byte) keyb stands = no_counts
command_counts ReadKey keyb stands = counts 0 (bit_value (keyb && stands)) 0 0
command_counts (LoadDigit dig byte) keyb stands = no_counts

-- what a scan counts, by what it records: a code, which is also one over an unread one where an interrupt stood
abbrev pub record_counts : Recording → Counts
record_counts nothing = no_counts
record_counts (key_code code) = counts 1 0 0 0
record_counts (over_unread code) = counts 1 0 1 0
record_counts release_noted = no_counts

-- what one step of a chip counts
abbrev pub step_counts : Step → Chip → Counts
step_counts (told command) c = command_counts command c.settings.system.keyb c.keys.interrupt
step_counts (scan bytes) c = record_counts (recorded bytes c)

-- what a history counts
unfoldable pub counts_of : List Step → Chip → Counts
counts_of [] c = no_counts
counts_of (step ∷ h) c = plus (step_counts step c) (counts_of h (after (step ∷ []) c))
