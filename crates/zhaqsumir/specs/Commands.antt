-- Commands as numbers: a kind, from 0 in the order of document 01's table, and five fields.
-- Assumes nothing.
use Rattle.std.specs.Prelude.{ℕ, List, [], ◌∷◌, eqb, leb, get_or}
use Rattle.base.specs.Bits.{bit_value}
use Rattle.base.specs.Pick.{pick}
use Rattle.base.specs.Refusals.{Told, done, refused}
use Rattle.word.specs.Ranges.{most_of}
use Rattle.word.specs.declared.Command.{Command}
use Rattle.word.specs.declared.Command.TheVariants.{NoOperation, BarLevel, SegmentClear, SegmentSet, Reset, Sleep, ShiftLeft, ShiftRight, RotateLeft, RotateRight, CustomCharacter, SystemParameters, DisplayParameters, BlinkByte, ReadKey, LoadDigit}
use Rattle.std.specs.declared.option.Option.{Option}
use Rattle.std.specs.declared.option.Option.TheVariants.{Some, None}

-- a kind and five fields
abbrev six : ℕ → ℕ → ℕ → ℕ → ℕ → ℕ → List ℕ
six kind a b c d e = kind ∷ a ∷ b ∷ c ∷ d ∷ e ∷ []

-- the numbers of a command; a field that its kind lacks is 0
abbrev pub numbers_of : Command → List ℕ
numbers_of NoOperation = six 0 0 0 0 0 0
numbers_of (BarLevel level) = six 1 level 0 0 0 0
numbers_of (SegmentClear addr) = six 2 addr 0 0 0 0
numbers_of (SegmentSet addr) = six 3 addr 0 0 0 0
numbers_of Reset = six 4 0 0 0 0 0
numbers_of Sleep = six 5 0 0 0 0 0
numbers_of ShiftLeft = six 6 0 0 0 0 0
numbers_of ShiftRight = six 7 0 0 0 0 0
numbers_of RotateLeft = six 8 0 0 0 0 0
numbers_of RotateRight = six 9 0 0 0 0 0
numbers_of (CustomCharacter shape) = six 10 shape 0 0 0 0
numbers_of (SystemParameters s) = six 11 (bit_value s.intm) (bit_value s.sspd) (bit_value s.dplr) (bit_value s.keyb) (bit_value s.disp)
numbers_of (DisplayParameters d) = six 12 (bit_value d.mode) d.limit 0 0 0
numbers_of (BlinkByte byte) = six 13 byte 0 0 0 0
numbers_of ReadKey = six 14 0 0 0 0 0
numbers_of (LoadDigit dig byte) = six 15 dig byte 0 0 0

-- what is made of a number that is at most so large; refusal 9 for another
abbrev pub fits : {A : Type 0} → ℕ → ℕ → Told A → Told A
fits most n made = pick (leb n most) made (refused 9 0)

-- a kind with one field, in the range that `word` has for it
abbrev pub one_field : ℕ → (ℕ → Command) → ℕ → Told Command
one_field kind command a = fits (most_of kind 0) a (done (command a))

-- system parameters: five bits
abbrev pub system_from : ℕ → ℕ → ℕ → ℕ → ℕ → Told Command
system_from a b c d e =
    fits (most_of 11 0) a
    (fits (most_of 11 1) b
    (fits (most_of 11 2) c
    (fits (most_of 11 3) d
    (fits (most_of 11 4) e (done (SystemParameters (record { intm = eqb a 1; sspd = eqb b 1; dplr = eqb c 1; keyb = eqb d 1; disp = eqb e 1 })))))))

-- display parameters: a bit, and a limit
abbrev pub display_from : ℕ → ℕ → Told Command
display_from a b = fits (most_of 12 0) a (fits (most_of 12 1) b (done (DisplayParameters (record { mode = eqb a 1; limit = b }))))

-- load digit: a digit and a byte
abbrev pub digit_from : ℕ → ℕ → Told Command
digit_from a b = fits (most_of 15 0) a (fits (most_of 15 1) b (done (LoadDigit a b)))

-- what five fields make a command of
abbrev Fields : Type 0
Fields = ℕ → ℕ → ℕ → ℕ → ℕ → Told Command

-- the kinds, from 0 in the order of document 01's table; a field that a kind lacks is not looked at
abbrev pub kinds : List Fields
kinds =
    (λ a b c d e. done NoOperation)
    ∷ (λ a b c d e. one_field 1 BarLevel a)
    ∷ (λ a b c d e. one_field 2 SegmentClear a)
    ∷ (λ a b c d e. one_field 3 SegmentSet a)
    ∷ (λ a b c d e. done Reset)
    ∷ (λ a b c d e. done Sleep)
    ∷ (λ a b c d e. done ShiftLeft)
    ∷ (λ a b c d e. done ShiftRight)
    ∷ (λ a b c d e. done RotateLeft)
    ∷ (λ a b c d e. done RotateRight)
    ∷ (λ a b c d e. one_field 10 CustomCharacter a)
    ∷ (λ a b c d e. system_from a b c d e)
    ∷ (λ a b c d e. display_from a b)
    ∷ (λ a b c d e. one_field 13 BlinkByte a)
    ∷ (λ a b c d e. done ReadKey)
    ∷ (λ a b c d e. digit_from a b)
    ∷ []

-- the command of a kind and five fields; refusal 9 where there is no such kind, or a field is out of range
unfoldable pub command_from : ℕ → ℕ → ℕ → ℕ → ℕ → ℕ → Told Command
command_from kind a b c d e = get_or kinds kind (λ a b c d e. refused 9 0) a b c d e

-- the command of six numbers
abbrev pub command_in : List ℕ → Told Command
command_in ns = command_from (get_or ns 0 0) (get_or ns 1 0) (get_or ns 2 0) (get_or ns 3 0) (get_or ns 4 0) (get_or ns 5 0)

-- what the code has of a command that is given
abbrev pub given_tells : Option Command → Told Command
given_tells (Some c) = done c
given_tells None = refused 9 0
