-- Document 01, "The words": its table row by row, the command that a word means, and the word of a command.
-- Assumes nothing.
use Rattle.std.specs.Prelude.{ℕ, ◌+◌, ◌*◌, ◌/◌, ◌^◌, Bool, true, ◌&&◌, List, [], ◌∷◌, eqb, leb}
use Rattle.base.specs.Pick.{pick}
use Rattle.base.specs.Bits.{cut, bit, bit_value}
use Rattle.base.specs.Refusals.{Told, done, refused}
use Rattle.word.specs.Ranges.{most_of}
use Rattle.word.specs.declared.Command.{Command}
use Rattle.word.specs.declared.Command.TheVariants.{NoOperation, BarLevel, SegmentClear, SegmentSet, Reset, Sleep, ShiftLeft, ShiftRight, RotateLeft, RotateRight, CustomCharacter, SystemParameters, DisplayParameters, BlinkByte, ReadKey, LoadDigit}

-- a row of the table: the leading bits as written, how many bits follow them, and what the whole word means
pub record Row : Type 0 where
  pub leading : ℕ
  pub follow : ℕ
  pub means : ℕ → Told Command

abbrev row : ℕ → ℕ → (ℕ → Told Command) → Row
row bits n command = record { leading = bits; follow = n; means = command }

-- an unlisted word: refusal 6
abbrev pub unlisted : Told Command
unlisted = refused 6 0

-- the bits INTM SSPD DPLR 0 KEYB DISP
abbrev pub system_bits : ℕ → Told Command
system_bits w =
    pick (bit w 2) unlisted
    (done (SystemParameters (record { intm = bit w 5; sspd = bit w 4; dplr = bit w 3; keyb = bit w 1; disp = bit w 0 })))

-- the bits MODE LIMIT(3) 0000
abbrev pub display_bits : ℕ → Told Command
display_bits w = pick (eqb (cut w 0 4) 0) (done (DisplayParameters (record { mode = bit w 7; limit = cut w 4 3 }))) unlisted

-- document 01's table, row by row
abbrev pub table : List Row
table =
    row 0b0000 8 (λ w. done NoOperation)
    ∷ row 0b00010 7 (λ w. done (BarLevel (cut w 0 7)))
    ∷ row 0b000110 6 (λ w. done (SegmentClear (cut w 0 6)))
    ∷ row 0b000111 6 (λ w. done (SegmentSet (cut w 0 6)))
    ∷ row 0b001000000001 0 (λ w. done Reset)
    ∷ row 0b001000000010 0 (λ w. done Sleep)
    ∷ row 0b001100000000 0 (λ w. done ShiftLeft)
    ∷ row 0b001100000010 0 (λ w. done ShiftRight)
    ∷ row 0b001100000001 0 (λ w. done RotateLeft)
    ∷ row 0b001100000011 0 (λ w. done RotateRight)
    ∷ row 0b00111 7 (λ w. done (CustomCharacter (cut w 0 7)))
    ∷ row 0b010000 6 system_bits
    ∷ row 0b0101 8 display_bits
    ∷ row 0b0110 8 (λ w. done (BlinkByte (cut w 0 8)))
    ∷ row 0b0111 8 (λ w. done ReadKey)
    ∷ row 0b1 11 (λ w. done (LoadDigit (cut w 8 3) (cut w 0 8)))
    ∷ []

-- what the first row that a word begins as says; a word that begins as none is unlisted
abbrev pub look_up : List Row → ℕ → Told Command
look_up [] w = unlisted
look_up (r ∷ rs) w = pick (eqb (w / 2 ^ r.follow) r.leading) (r.means w) (look_up rs w)

-- the command that a word means, or refusal 6; a word above 4,095 begins as no row
unfoldable pub decoded_of : ℕ → Told Command
decoded_of w = look_up table w

-- a command's word, x bits 0
abbrev pub word_of : Command → ℕ
word_of NoOperation = 0b000000000000
word_of (BarLevel level) = 0b000100000000 + level
word_of (SegmentClear addr) = 0b000110000000 + addr
word_of (SegmentSet addr) = 0b000111000000 + addr
word_of Reset = 0b001000000001
word_of Sleep = 0b001000000010
word_of ShiftLeft = 0b001100000000
word_of ShiftRight = 0b001100000010
word_of RotateLeft = 0b001100000001
word_of RotateRight = 0b001100000011
word_of (CustomCharacter shape) = 0b001110000000 + shape
word_of (SystemParameters s) =
    0b010000000000 + 32 * bit_value s.intm + 16 * bit_value s.sspd + 8 * bit_value s.dplr + 2 * bit_value s.keyb + bit_value s.disp
word_of (DisplayParameters d) = 0b010100000000 + 128 * bit_value d.mode + 16 * d.limit
word_of (BlinkByte byte) = 0b011000000000 + byte
word_of ReadKey = 0b011100000000
word_of (LoadDigit dig byte) = 0b100000000000 + 256 * dig + byte

-- no field is out of range, by the table of ranges; a bit can't be
abbrev pub legal : Command → Bool
legal NoOperation = true
legal (BarLevel level) = leb level (most_of 1 0)
legal (SegmentClear addr) = leb addr (most_of 2 0)
legal (SegmentSet addr) = leb addr (most_of 3 0)
legal Reset = true
legal Sleep = true
legal ShiftLeft = true
legal ShiftRight = true
legal RotateLeft = true
legal RotateRight = true
legal (CustomCharacter shape) = leb shape (most_of 10 0)
legal (SystemParameters s) = true
legal (DisplayParameters d) = leb d.limit (most_of 12 1)
legal (BlinkByte byte) = leb byte (most_of 13 0)
legal ReadKey = true
legal (LoadDigit dig byte) = leb dig (most_of 15 0) && leb byte (most_of 15 1)

-- the word of a legal command, or refusal 9
unfoldable pub encoded_of : Command → Told ℕ
encoded_of c = pick (legal c) (done (word_of c)) (refused 9 0)

-- a word with its x bits 0: the low eight of no operation and of read key
unfoldable pub plain : ℕ → ℕ
plain w = pick (eqb (w / 2 ^ 8) 0b0000) 0b000000000000 (pick (eqb (w / 2 ^ 8) 0b0111) 0b011100000000 w)
