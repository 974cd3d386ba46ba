-- Document 01, "Segments lit".
-- Assumes nothing.
use Rattle.std.specs.Prelude.{ℕ, ◌+◌, ◌*◌, Bool, not, ◌||◌, List, [], ◌∷◌, eqb, ltb, get_or}
use Rattle.base.specs.Pick.{pick}
use Rattle.base.specs.Bits.{cut, bit, bit_value}
use Rattle.chip.specs.declared.Settings.{Settings}
use Rattle.chip.specs.declared.Chip.{Chip}

-- segments G to A of the BCD codes 00H to 1FH; 1EH is the custom character, and its place here is not looked at
abbrev pub shapes : List ℕ
shapes =
    0x3F ∷ 0x06 ∷ 0x5B ∷ 0x4F ∷ 0x66 ∷ 0x6D ∷ 0x7D ∷ 0x07
    ∷ 0x7F ∷ 0x6F ∷ 0x77 ∷ 0x7C ∷ 0x58 ∷ 0x5E ∷ 0x79 ∷ 0x71
    ∷ 0x00 ∷ 0x46 ∷ 0x40 ∷ 0x41 ∷ 0x39 ∷ 0x0F ∷ 0x08 ∷ 0x76
    ∷ 0x38 ∷ 0x73 ∷ 0x00 ∷ 0x00 ∷ 0x00 ∷ 0x00 ∷ 0x00 ∷ 0x00 ∷ []

-- LIMIT 000 means 8
abbrev pub limit_of : ℕ → ℕ
limit_of coded = pick (eqb coded 0) 8 coded

-- segments G to A of a BCD code; the custom character has seven bits
unfoldable pub shape : ℕ → ℕ → ℕ
shape custom code = pick (eqb code 0x1E) (cut custom 0 7) (get_or shapes code 0)

-- MODE 1: bits 4 to 0 give segments G to A, bit 7 alone gives the point
unfoldable pub bcd : ℕ → ℕ → ℕ
bcd custom byte = shape custom (cut byte 0 5) + 128 * bit_value (bit byte 7)

-- nothing is lit when DISP is 0, when asleep, or when the digit isn't below the limit
abbrev pub dark : Settings → ℕ → Bool
dark s dig = not s.system.disp || s.sleeping || not (ltb dig (limit_of s.display.limit))

-- the segments lit of one digit; MODE 0: the data byte
unfoldable pub lit_digit : Settings → ℕ → ℕ → ℕ
lit_digit s dig byte = pick (dark s dig) 0 (pick s.display.mode (bcd s.custom byte) byte)

-- the segments lit of all eight digits, DIG0 first
abbrev pub lit_of : Chip → List ℕ
lit_of c =
    lit_digit c.settings 0 (get_or c.digits 0 0)
    ∷ lit_digit c.settings 1 (get_or c.digits 1 0)
    ∷ lit_digit c.settings 2 (get_or c.digits 2 0)
    ∷ lit_digit c.settings 3 (get_or c.digits 3 0)
    ∷ lit_digit c.settings 4 (get_or c.digits 4 0)
    ∷ lit_digit c.settings 5 (get_or c.digits 5 0)
    ∷ lit_digit c.settings 6 (get_or c.digits 6 0)
    ∷ lit_digit c.settings 7 (get_or c.digits 7 0)
    ∷ []
