-- What one step counts.
--     plus_none                    nothing more
--     command_few, record_few      a step counts at most one of each kind
-- Assumes nothing.
use mathlib.Core.Path.{◌≡◌}
use mathlib.Core.Bool.{Bool, true, false, not, ◌&&◌}
use Prim.Native.Nat.{◌≤◌}
use native.Mathlib.Nat.{add-zero}
use native.Mathlib.Omega.{arith}
use Rattle.base.specs.Bits.{bit_value}
use Rattle.base.proofs.Cuts.{bit_value_lt}
use Rattle.word.specs.declared.Command.{Command}
use Rattle.word.specs.declared.Command.TheVariants.{NoOperation, BarLevel, SegmentClear, SegmentSet, Reset, Sleep, ShiftLeft, ShiftRight, RotateLeft, RotateRight, CustomCharacter, SystemParameters, DisplayParameters, BlinkByte, ReadKey, LoadDigit}
use Rattle.chip.specs.Scans.{Recording, nothing, key_code, over_unread, release_noted}
use Rattle.tallies.specs.declared.Counts.{Counts}
use Rattle.tallies.specs.Counts.{counts, no_counts, plus, command_counts, record_counts}
use Rattle.tallies.specs.Parts.{AtMostOne}

pub plus_none : (a : Counts) → plus a no_counts ≡ a
plus_none a = λ i. counts (add-zero a.recorded i) (add-zero a.read i) (add-zero a.overwritten i) (add-zero a.cleared i)

bit_few : (b : Bool) → bit_value b ≤ 1
bit_few b = omega (arith, bit_value_lt b)

few : (a b c d : Bool) → AtMostOne (counts (bit_value a) (bit_value b) (bit_value c) (bit_value d))
few a b c d = record { recorded = bit_few a; read = bit_few b; overwritten = bit_few c; cleared = bit_few d }

none_few : AtMostOne no_counts
none_few = few false false false false

pub command_few : (command : Command) (keyb stands : Bool) → AtMostOne (command_counts command keyb stands)
command_few NoOperation keyb stands = none_few
command_few (BarLevel level) keyb stands = none_few
command_few (SegmentClear addr) keyb stands = none_few
command_few (SegmentSet addr) keyb stands = none_few
command_few Reset keyb stands = few false false false stands
command_few Sleep keyb stands = none_few
command_few ShiftLeft keyb stands = none_few
command_few ShiftRight keyb stands = none_few
command_few RotateLeft keyb stands = none_few
command_few RotateRight keyb stands = none_few
command_few (CustomCharacter shape) keyb stands = none_few
command_few (SystemParameters s) keyb stands = few false false false (not s.keyb && stands)
command_few (DisplayParameters d) keyb stands = none_few
command_few (BlinkByte byte) keyb stands = none_few
command_few ReadKey keyb stands = few false (keyb && stands) false false
command_few (LoadDigit dig byte) keyb stands = none_few

pub record_few : (what : Recording) → AtMostOne (record_counts what)
record_few nothing = none_few
record_few (key_code code) = few true false false false
record_few (over_unread code) = few true false true false
record_few release_noted = none_few
