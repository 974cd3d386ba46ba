-- Document 01, "Capture text": the forms that a frame can have.
-- Assumes nothing.
use Rattle.std.specs.Prelude.{ℕ, ◌&&◌, List, [], ◌∷◌, eqb, leb, ltb, length, get_or, drop}
use Rattle.base.specs.Pick.{pick}
use Rattle.base.specs.Refusals.{Told, done, refused}
use Rattle.chain.specs.Chain.{chip_count, checked_from}
use Rattle.capture.specs.declared.frames.Form.{Form as Reading}
use Rattle.capture.specs.declared.frames.Form.TheVariants as Readings

-- the first line: 00 01 N, or refusal 10
unfoldable pub first_of : List ℕ → Told ℕ
first_of [] = refused 10 0
first_of (a ∷ []) = refused 10 0
first_of (a ∷ b ∷ []) = refused 10 0
first_of (a ∷ b ∷ n ∷ []) = pick (eqb a 0x00 && eqb b 0x01 && chip_count n) (done n) (refused 10 0)
first_of (a ∷ b ∷ n ∷ c ∷ more) = refused 10 0

-- what a line after the first says
pub data Form : Type 0 where
  samples : List ℕ → Form
  scan : ℕ → List ℕ → Form
  other : Form

-- samples that passed their test; a bad sample inside text is 10
abbrev pub samples_by : Told (Unit {0}) → List ℕ → Form
samples_by (done u) ss = samples ss
samples_by (refused number place) ss = other

-- after 01: 1 to 32 samples
abbrev pub samples_form : List ℕ → Form
samples_form ss = pick (leb 1 (length ss) && leb (length ss) 32) (samples_by (checked_from 0 ss) ss) other

-- after 02: a chip below N, and 8 scan bytes
abbrev pub scan_form : ℕ → List ℕ → Form
scan_form n [] = other
scan_form n (chip ∷ bytes) = pick (ltb chip n && eqb (length bytes) 8) (scan chip bytes) other

-- 01 and 1 to 32 samples, or 02, chip, 8 scan bytes
unfoldable pub form_of : ℕ → List ℕ → Form
form_of n [] = other
form_of n (kind ∷ rest) = pick (eqb kind 0x01) (samples_form rest) (pick (eqb kind 0x02) (scan_form n rest) other)

-- what `form_of` answers, the kind of a form alone, says of the line's bytes
abbrev pub read_as : Reading → List ℕ → Form
read_as Readings.Samples bytes = samples (drop 1 bytes)
read_as Readings.Scan bytes = scan (get_or bytes 1 0) (drop 2 bytes)
read_as Readings.Other bytes = other
