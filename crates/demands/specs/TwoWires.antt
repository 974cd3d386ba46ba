-- Document 02, C-15: each refusal's "given exactly when" for the entries of one CH450, as a statement about what an entry was given, and
-- the table of each entry, its refusals in C-15's order: 12, 9, 1 of the model; 5, 9, 8 of the writer. proofs/ExactTwoWires.antt proves
-- that each entry keeps to its table; the table of a text of two wires is in specs/WiresTexts.antt, those of the library's functions in
-- specs/PanelNumbers.antt.
-- Assumes nothing.
use Rattle.std.specs.Prelude.{◌≡◌, true, false, ◌⊎◌, List, [], ◌∷◌, ◌++◌, ℕ, ◌+◌, ◌*◌, ◌/◌, ◌%◌, ◌^◌, ◌<◌, ◌≤◌, length, get_or}
use Rattle.base.specs.Bits.{bit_value}
use Rattle.ch450.specs.declared.Command.{Command}
use Rattle.ch450.specs.declared.Command.TheVariants.{Parameters, LoadDigit, ReadKey}
use Rattle.ch450.specs.declared.Panel.{Panel}
use Rattle.ch450.specs.Edges.{scl, sda}
use Rattle.demands.specs.Exact.{Row, names, row, each}

-- ---- the model's refusals

-- 1: a sample is above 3
abbrev pub SampleAbove3 : ℕ → Type 0
SampleAbove3 sample = 3 < sample

-- 1, of samples: the place is that of a sample above 3, and the lowest
abbrev pub LowestAbove3 : List ℕ → ℕ → Type 0
LowestAbove3 samples place =
    (place < length samples) × SampleAbove3 (get_or samples place 0) × ((q : ℕ) → q < place → SampleAbove3 (get_or samples q 0) → ⊥)

-- 9: the key's code is above 127
abbrev pub KeyAbove127 : ℕ → Type 0
KeyAbove127 key = 127 < key

-- 9: a command's field is out of range: INTENS has two bits, the digits are DIG2 to DIG7
abbrev pub FieldOut : Command → Type 0
FieldOut (Parameters s) = 3 < s.intens
FieldOut (LoadDigit dig byte) = (dig < 2) ⊎ (7 < dig)
FieldOut ReadKey = ⊥

-- 12: what no run of a CH450 can hold
pub data UnheldPanel (p : Panel) : Type 0 where
  -- levels above 3
  levels : 3 < p.wires.levels → UnheldPanel p
  -- INTENS above 3
  intens : 3 < p.settings.intens → UnheldPanel p
  -- no transfer runs, and rises or bits are kept
  rest_rises : p.wires.running ≡ false → 0 < p.wires.rises → UnheldPanel p
  rest_bits : p.wires.running ≡ false → 0 < p.wires.bits → UnheldPanel p
  -- a transfer runs with over 20 rises
  rises : p.wires.running ≡ true → 20 < p.wires.rises → UnheldPanel p
  -- or with more bits than rises
  bits : p.wires.running ≡ true → 2 ^ p.wires.rises ≤ p.wires.bits → UnheldPanel p
  -- or with over 19 bits
  wide : p.wires.running ≡ true → 2 ^ 19 ≤ p.wires.bits → UnheldPanel p
  -- or SCL is high and SDA isn't the bit taken last; before any bit it is low
  last : p.wires.running ≡ true → scl p.wires.levels ≡ true
      → (p.wires.bits % 2 ≡ bit_value (sda p.wires.levels) → ⊥) → UnheldPanel p

-- ---- the writer's refusals

-- 5: over 64 commands
abbrev pub MoreThan64 : List ℕ → Type 0
MoreThan64 ws = 64 < length ws

-- byte 1 of a word
abbrev pub byte_one : ℕ → ℕ
byte_one w = w / 256 % 256

-- a word that is written: byte 1 is 48H for parameters, or 64H, 66H, 68H, 6AH, 6CH or 6EH for DIG2 to DIG7
pub data Writable (w : ℕ) : Type 0 where
  parameters : byte_one w ≡ 0x48 → Writable w
  digit : (dig : ℕ) → 2 ≤ dig → dig ≤ 7 → byte_one w ≡ 0x60 + 2 * dig → Writable w

-- 9, of a list: a word is neither parameters nor a digit
abbrev pub NotWritable : ℕ → Type 0
NotWritable w = Writable w → ⊥

-- 9, of a list: the place is that of such a word, and the lowest
abbrev pub LowestNotWritable : List ℕ → ℕ → Type 0
LowestNotWritable ws place =
    (place < length ws) × NotWritable (get_or ws place 0) × ((q : ℕ) → q < place → NotWritable (get_or ws q 0) → ⊥)

-- 8: the buffer is shorter than the samples, 40 for each command
abbrev pub RoomShort : List ℕ → List ℕ → Type 0
RoomShort ws out = length out < 40 * length ws

-- ---- the tables

-- ch450::commands::encode
abbrev pub ch450_encode_table : Command → List Row
ch450_encode_table command = row 9 (FieldOut command) ∷ []

-- ch450::apply
abbrev pub ch450_apply_table : Panel → Command → List Row
ch450_apply_table p command = row 12 (UnheldPanel p) ∷ row 9 (FieldOut command) ∷ []

-- ch450::segments_lit
abbrev pub ch450_lit_table : Panel → List Row
ch450_lit_table p = row 12 (UnheldPanel p) ∷ []

-- ch450::play::sample
abbrev pub ch450_sample_table : Panel → ℕ → ℕ → List Row
ch450_sample_table p key sample = row 12 (UnheldPanel p) ∷ row 9 (KeyAbove127 key) ∷ row 1 (SampleAbove3 sample) ∷ []

-- a sample at a place
abbrev pub above3_row : ℕ → ℕ → List Row
above3_row place sample = names 1 place (SampleAbove3 sample) ∷ []

-- samples, all tested; the lowest place is named
abbrev pub above3_rows : List ℕ → List Row
above3_rows samples = each above3_row 0 samples

-- ch450::play::play
abbrev pub ch450_play_table : Panel → ℕ → List ℕ → List Row
ch450_play_table p key samples = row 12 (UnheldPanel p) ∷ row 9 (KeyAbove127 key) ∷ above3_rows samples

-- a word at a place
abbrev pub writable_row : ℕ → ℕ → List Row
writable_row place w = names 9 place (NotWritable w) ∷ []

-- words from the first on; the place is named
abbrev pub writable_rows : List ℕ → List Row
writable_rows ws = each writable_row 0 ws

-- ch450::writer::write
abbrev pub ch450_write_table : List ℕ → List ℕ → List Row
ch450_write_table ws out = (row 5 (MoreThan64 ws) ∷ writable_rows ws) ++ row 8 (RoomShort ws out) ∷ []
