-- Document 01, "Refusal numbers": each row's "given exactly when", as a statement about what an entry was given.
-- Assumes nothing.
use Rattle.std.specs.Prelude.{◌≡◌, true, false, ◌⊎◌, List, [], ◌∷◌, ℕ, ◌+◌, ◌*◌, ◌-◌, ◌/◌, ◌%◌, ◌<◌, ◌≤◌, length, get_or}
use Rattle.word.specs.declared.System.{System}
use Rattle.word.specs.declared.Command.{Command}
use Rattle.word.specs.declared.Command.TheVariants.{NoOperation, BarLevel, SegmentClear, SegmentSet, Reset, Sleep, ShiftLeft, ShiftRight, RotateLeft, RotateRight, CustomCharacter, SystemParameters, DisplayParameters, BlinkByte, ReadKey, LoadDigit}
use Rattle.word.specs.Words.{word_of, plain}
use Rattle.chip.specs.declared.Chip.{Chip}
use Rattle.chip.specs.Record.{none}
use Rattle.chain.specs.declared.Chain.{Chain}
use Rattle.chain.specs.Chain.{most}
use Rattle.chain.specs.Entries.{chip_at}
use Rattle.chain.specs.Blocks.{rises_in}
use Rattle.word.specs.Ranges.{ranges}

-- 1: a sample is above 7
abbrev pub SampleAbove7 : ℕ → Type 0
SampleAbove7 sample = 7 < sample

-- 1, of samples: the place is that of a sample above 7, and the lowest
abbrev pub LowestAbove7 : List ℕ → ℕ → Type 0
LowestAbove7 samples place =
    (place < length samples) × SampleAbove7 (get_or samples place 0) × ((q : ℕ) → q < place → SampleAbove7 (get_or samples q 0) → ⊥)

-- 2: a scan's chip is not below N; so for a command and for the segments of a chip
abbrev pub ChipNotBelow : ℕ → ℕ → Type 0
ChipNotBelow n k = n ≤ k

-- 3: N is not 1 to 8
abbrev pub NotOneToMost : ℕ → Type 0
NotOneToMost n = (n < 1) ⊎ (most < n)

-- 4: list length isn't a multiple of N
abbrev pub NotMultiple : ℕ → List ℕ → Type 0
NotMultiple n ws = (rows : ℕ) → length ws ≡ rows * n → ⊥

-- 5: more than 64 rows
abbrev pub MoreThan64Rows : ℕ → List ℕ → Type 0
MoreThan64Rows n ws = 64 < length ws / n

-- none of 3, 4, 5
abbrev pub ListFits : ℕ → List ℕ → Type 0
ListFits n ws = (NotOneToMost n → ⊥) × (NotMultiple n ws → ⊥) × (MoreThan64Rows n ws → ⊥)

-- 9: a command field is out of range
abbrev pub OutOfRange : Command → Type 0
OutOfRange NoOperation = ⊥
OutOfRange (BarLevel level) = 127 < level
OutOfRange (SegmentClear addr) = 63 < addr
OutOfRange (SegmentSet addr) = 63 < addr
OutOfRange Reset = ⊥
OutOfRange Sleep = ⊥
OutOfRange ShiftLeft = ⊥
OutOfRange ShiftRight = ⊥
OutOfRange RotateLeft = ⊥
OutOfRange RotateRight = ⊥
OutOfRange (CustomCharacter shape) = 127 < shape
OutOfRange (SystemParameters s) = ⊥
OutOfRange (DisplayParameters d) = 7 < d.limit
OutOfRange (BlinkByte byte) = 255 < byte
OutOfRange ReadKey = ⊥
OutOfRange (LoadDigit dig byte) = (7 < dig) ⊎ (255 < byte)

-- a field is above the most that it may be; further fields are not looked at
abbrev pub Above : List ℕ → List ℕ → Type 0
Above [] fields = ⊥
Above (most ∷ mosts) [] = Unit {0}
Above (most ∷ mosts) (field ∷ fields) = (most < field) ⊎ Above mosts fields

-- 9, of a command that is given as numbers: there is no such kind, or a field that the kind has is out of range
abbrev pub NumbersOutOfRange : ℕ → List ℕ → Type 0
NumbersOutOfRange kind fields = (15 < kind) ⊎ Above (get_or ranges kind []) fields

-- a listed word is, but for its x bits, the word of a command with no field out of range
abbrev pub Listed : ℕ → Type 0
Listed w = (c : Command) × (OutOfRange c → ⊥) × (word_of c ≡ plain w)

-- 6: a word is unlisted or above 4,095
abbrev pub Unlisted : ℕ → Type 0
Unlisted w = (Listed w → ⊥) ⊎ (4095 < w)

-- a system word with KEYB 1
abbrev pub KeypadWord : ℕ → Type 0
KeypadWord w = (s : System) × (s.keyb ≡ true) × (word_of (SystemParameters s) ≡ w)

-- 7: a system word with KEYB 1 for a chip that isn't the last; the words of a row are chip 0's first
abbrev pub KeypadBeforeLast : ℕ → ℕ → ℕ → Type 0
KeypadBeforeLast n place w = KeypadWord w × (place % n ≡ n - 1 → ⊥)

-- a reset or a system word
abbrev pub Switches : ℕ → Type 0
Switches w = (word_of Reset ≡ w) ⊎ ((s : System) × (word_of (SystemParameters s) ≡ w))

-- a reset, or a system word with KEYB 0 and DISP 0
abbrev pub SwitchesOff : ℕ → Type 0
SwitchesOff w = (word_of Reset ≡ w) ⊎ ((s : System) × (s.keyb ≡ false) × (s.disp ≡ false) × (word_of (SystemParameters s) ≡ w))

-- an earlier place of the list, for the same chip
abbrev pub Earlier : ℕ → ℕ → ℕ → Type 0
Earlier n place q = (q < place) × (q % n ≡ place % n)

-- the nearest earlier reset or system word for that chip exists, and is a reset or has KEYB 0 and DISP 0: there is an earlier word for it
-- that is one of these, with no reset or system word for it after that
abbrev pub SwitchedOff : ℕ → List ℕ → ℕ → Type 0
SwitchedOff n ws place =
    (q : ℕ) × Earlier n place q × SwitchesOff (get_or ws q 0) × ((m : ℕ) → q < m → Earlier n place m → Switches (get_or ws m 0) → ⊥)

-- 13: a sleep word for a chip that wasn't switched off before it in the same list (C-17)
abbrev pub SleepsLit : ℕ → List ℕ → ℕ → ℕ → Type 0
SleepsLit n ws place w = (word_of Sleep ≡ w) × (SwitchedOff n ws place → ⊥)

-- the words before a place, which are neither 6 nor 7 nor 13
abbrev pub AcceptedBefore : ℕ → List ℕ → ℕ → Type 0
AcceptedBefore n ws place =
    (q : ℕ) → q < place
    → (Unlisted (get_or ws q 0) → ⊥) × (KeypadBeforeLast n q (get_or ws q 0) → ⊥) × (SleepsLit n ws q (get_or ws q 0) → ⊥)

-- 8: the buffer is shorter than the samples, 24N + 2 for each row
abbrev pub BufferShort : ℕ → List ℕ → List ℕ → Type 0
BufferShort n ws out = length out < (24 * n + 2) * (length ws / n)

-- 8, of a list that is lent for the places of a block's LOAD rises: it is shorter than they are (C-11)
abbrev pub ListShort : Chain → List ℕ → List ℕ → Type 0
ListShort ch samples list = length list < length (rises_in ch samples)

-- 12, of a chip record: what no chip can hold
pub data Unheld (c : Chip) : Type 0 where
  -- register above 4,095
  register : 4095 < c.line.register → Unheld c
  -- custom or code above 127
  custom : 127 < c.settings.custom → Unheld c
  code : 127 < c.keys.code → Unheld c
  -- limit above 7
  limit : 7 < c.settings.display.limit → Unheld c
  -- a readout (one with bits left) of a code above 127
  readout : 0 < c.line.readout.left → 127 < c.line.readout.code → Unheld c
  -- or with over 7 bits left
  left : 7 < c.line.readout.left → Unheld c
  -- last scan neither none nor 0 to 63
  last : (c.keys.last ≡ none → ⊥) → 63 < c.keys.last → Unheld c

-- 12, of the levels kept or given
abbrev pub LevelsAbove7 : ℕ → Type 0
LevelsAbove7 levels = 7 < levels

-- 12, of a chain: of a chip record below N, or of the levels kept
abbrev pub UnheldChain : ℕ → Chain → Type 0
UnheldChain n ch = ((k : ℕ) × (k < n) × Unheld (chip_at k ch)) ⊎ LevelsAbove7 ch.levels
