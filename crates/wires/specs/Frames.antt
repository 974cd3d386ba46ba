-- docs/CAPTURES.md, "Text of two wires": the forms that a line can have.
-- Assumes nothing.
use Rattle.std.specs.Prelude.{ℕ, Bool, true, false, ◌&&◌, List, eqb, leb, length, get_or, drop}
use Rattle.base.specs.Pick.{pick}
use Rattle.base.specs.Refusals.{Told, done, refused}
use Rattle.ch450.specs.Entries.{checked_from}

-- what the first line says: the key's code, and the digits at power-on
pub record Begin : Type 0 where
  pub key : ℕ
  pub digits : List ℕ

-- the first line: 40 01, the key's code, 0 to 127, and DIG2 to DIG7; or refusal 10
unfoldable pub first_of : List ℕ → Told Begin
first_of bytes =
    pick (eqb (length bytes) 9 && eqb (get_or bytes 0 0) 0x40 && eqb (get_or bytes 1 0) 0x01 && leb (get_or bytes 2 0) 127)
    (done (record { key = get_or bytes 2 0; digits = drop 3 bytes }))
    (refused 10 0)

-- what a line after the first says
pub data Form : Type 0 where
  samples : List ℕ → Form
  other : Form

-- a test was passed
abbrev pub passed : Told (Unit {0}) → Bool
passed (done u) = true
passed (refused number place) = false

-- 41 and 1 to 32 samples; a bad sample inside text is 10
unfoldable pub is_samples : List ℕ → Bool
is_samples bytes =
    leb 2 (length bytes) && leb (length bytes) 33 && eqb (get_or bytes 0 0) 0x41 && passed (checked_from 0 (drop 1 bytes))

abbrev pub form_of : List ℕ → Form
form_of bytes = pick (is_samples bytes) (samples (drop 1 bytes)) other
