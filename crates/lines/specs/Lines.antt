-- Document 01, "Capture text": lines of upper-case hexadecimal, two digits a byte, ended by 0AH; read and written.
-- Assumes nothing.
use Rattle.std.specs.Prelude.{ℕ, suc, ◌+◌, ◌*◌, ◌-◌, ◌/◌, ◌%◌, ◌^◌, Bool, true, ◌&&◌, List, [], ◌∷◌, ◌++◌, eqb, leb, ltb, length}
use Rattle.base.specs.Pick.{pick}

-- the byte that ends a line
abbrev pub newline : ℕ
newline = 0x0A

-- ---- lines of a text

-- a line's characters: ended by 0AH, or cut off by the text's end
pub data Line : Type 0 where
  ended : List ℕ → Line
  cut_off : List ℕ → Line

-- a character before the lines that follow it
abbrev pub before : ℕ → List Line → List Line
before ch [] = cut_off (ch ∷ []) ∷ []
before ch (ended chars ∷ rest) = ended (ch ∷ chars) ∷ rest
before ch (cut_off chars ∷ rest) = cut_off (ch ∷ chars) ∷ rest

-- the lines of a text
unfoldable pub lines_of : List ℕ → List Line
lines_of [] = []
lines_of (ch ∷ text) = pick (eqb ch newline) (ended [] ∷ lines_of text) (before ch (lines_of text))

-- ---- hexadecimal digits read

-- what an upper-case hexadecimal digit counts; 16 where a character is none
unfoldable pub hex_of : ℕ → ℕ
hex_of ch = pick (leb 0x30 ch && leb ch 0x39) (ch - 0x30) (pick (leb 0x41 ch && leb ch 0x46) (ch - 0x37) 16)

-- every character is such a digit
unfoldable pub all_hex : List ℕ → Bool
all_hex [] = true
all_hex (ch ∷ chars) = ltb (hex_of ch) 16 && all_hex chars

-- two digits a byte, the high one first
unfoldable pub bytes_of : List ℕ → List ℕ
bytes_of [] = []
bytes_of (high ∷ []) = []
bytes_of (high ∷ low ∷ chars) = (16 * hex_of high + hex_of low) ∷ bytes_of chars

-- a line's bytes; none, as no form has it, where it isn't ended or isn't digits two by two
abbrev pub bytes_in : Line → List ℕ
bytes_in (ended chars) = pick (all_hex chars && eqb (length chars % 2) 0) (bytes_of chars) []
bytes_in (cut_off chars) = []

-- ---- lines written

-- the hexadecimal digit that counts so much
abbrev pub hex_for : ℕ → ℕ
hex_for v = pick (ltb v 10) (0x30 + v) (0x37 + v)

-- bytes as hexadecimal digits, two a byte, the high one first
unfoldable pub as_hex : List ℕ → List ℕ
as_hex [] = []
as_hex (byte ∷ bytes) = hex_for (byte / 16) ∷ hex_for (byte % 16) ∷ as_hex bytes

-- a line of bytes
unfoldable pub line_for : List ℕ → List ℕ
line_for bytes = as_hex bytes ++ newline ∷ []

-- the lines of each element of a list, by its place; places from a number on
unfoldable pub lines_at : {A : Type 0} → (ℕ → A → List ℕ) → ℕ → List A → List ℕ
lines_at f k [] = []
lines_at f k (x ∷ xs) = f k x ++ lines_at f (suc k) xs

-- a number in four bytes, high first
abbrev pub four_bytes : ℕ → List ℕ
four_bytes n = (n / 2 ^ 24 % 256) ∷ (n / 2 ^ 16 % 256) ∷ (n / 2 ^ 8 % 256) ∷ (n % 256) ∷ []

-- a number in eight bytes, high first
abbrev pub eight_bytes : ℕ → List ℕ
eight_bytes n = four_bytes (n / 2 ^ 32) ++ four_bytes n
