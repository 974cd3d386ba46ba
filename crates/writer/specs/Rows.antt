-- Document 01, "The writer and the finder": the samples that rows of words are written as, and the words that are accepted. Where a sleep
-- word may stand (C-17), specs/Lights.antt says.
-- Assumes nothing.
use Rattle.std.specs.Prelude.{ℕ, zero, suc, ◌+◌, ◌-◌, ◌*◌, ◌/◌, ◌%◌, Bool, false, not, ◌&&◌, List, [], ◌∷◌, ◌++◌, eqb, leb, length, take, drop}
use Rattle.base.specs.Bits.{cut}
use Rattle.base.specs.Pick.{pick}
use Rattle.base.specs.Refusals.{Told, done, refused}
use Rattle.word.specs.declared.Command.{Command}
use Rattle.word.specs.declared.Command.TheVariants.{NoOperation, BarLevel, SegmentClear, SegmentSet, Reset, Sleep, ShiftLeft, ShiftRight, RotateLeft, RotateRight, CustomCharacter, SystemParameters, DisplayParameters, BlinkByte, ReadKey, LoadDigit}
use Rattle.word.specs.Words.{decoded_of}
use Rattle.chain.specs.Chain.{chip_count}
use Rattle.writer.specs.Lights.{said_by_meaning, may_sleep, lit_sleep}

-- ---- rows

-- so many rows of n words, or of n commands, chip 0 first in each row
unfoldable pub cut_rows {ℓ} : {A : Type ℓ} → ℕ → ℕ → List A → List (List A)
cut_rows zero n ws = []
cut_rows (suc count) n ws = take n ws ∷ cut_rows count n (drop n ws)

-- the rows of a list
abbrev pub rows_of {ℓ} : {A : Type ℓ} → ℕ → List A → List (List A)
rows_of n ws = cut_rows (length ws / n) n ws

-- the 12 bits of a word, lowest first
unfoldable pub word_bits : ℕ → List ℕ
word_bits w =
    cut w 0 1 ∷ cut w 1 1 ∷ cut w 2 1 ∷ cut w 3 1 ∷ cut w 4 1 ∷ cut w 5 1 ∷ cut w 6 1 ∷ cut w 7 1 ∷ cut w 8 1 ∷ cut w 9 1 ∷ cut w 10 1 ∷ cut w 11 1 ∷ []

-- a row of words, chip 0 first, is sent last chip first, each word lowest bit first
unfoldable pub row_bits : List ℕ → List ℕ
row_bits [] = []
row_bits (w ∷ ws) = row_bits ws ++ word_bits w

-- a bit is two samples, DCLK low and DCLK high; base 4 is LOAD high, base 0 LOAD low
abbrev pub bit_samples : ℕ → ℕ → List ℕ
bit_samples base b = (base + b) ∷ (base + 2 + b) ∷ []

-- bits one after another
unfoldable pub clocking : ℕ → List ℕ → List ℕ
clocking base [] = []
clocking base (b ∷ bs) = bit_samples base b ++ clocking base bs

-- a row's samples: a bit b is 4+b then 6+b, last chip first, lowest bit first; the row ends with 3, 7
unfoldable pub row_samples : List ℕ → List ℕ
row_samples row = clocking 4 (row_bits row) ++ 3 ∷ 7 ∷ []

-- rows one after another
unfoldable pub samples_of : List (List ℕ) → List ℕ
samples_of [] = []
samples_of (row ∷ rows) = row_samples row ++ samples_of rows

-- the samples that a list of words is written as
abbrev pub written : ℕ → List ℕ → List ℕ
written n ws = samples_of (rows_of n ws)

-- a row takes 24N + 2 samples
abbrev pub width : ℕ → ℕ
width n = 24 * n + 2

-- ---- which lists are accepted

-- a system word with KEYB 1
abbrev pub keypad_on : Command → Bool
keypad_on NoOperation = false
keypad_on (BarLevel level) = false
keypad_on (SegmentClear addr) = false
keypad_on (SegmentSet addr) = false
keypad_on Reset = false
keypad_on Sleep = false
keypad_on ShiftLeft = false
keypad_on ShiftRight = false
keypad_on RotateLeft = false
keypad_on RotateRight = false
keypad_on (CustomCharacter shape) = false
keypad_on (SystemParameters s) = s.keyb
keypad_on (DisplayParameters d) = false
keypad_on (BlinkByte byte) = false
keypad_on ReadKey = false
keypad_on (LoadDigit dig byte) = false

-- the place in the list is one of the last chip's
abbrev pub for_last : ℕ → ℕ → Bool
for_last n place = eqb (place % n) (n - 1)

-- what a word at a place means for the writer: 6 where it is unlisted, 7 where it turns the keypad on before the last chip
abbrev pub word_test : ℕ → ℕ → Told Command → Told (Unit {0})
word_test n place (refused number at) = refused 6 place
word_test n place (done command) = pick (keypad_on command && not (for_last n place)) (refused 7 place) (done tt)

-- 13 where it is a sleep word, unless the nearest earlier reset or system word for that same chip in the list exists and is a reset or
-- has KEYB 0 and DISP 0
abbrev pub sleep_test : ℕ → List ℕ → ℕ → Told Command → Told (Unit {0})
sleep_test n ws place means = pick (lit_sleep (said_by_meaning means) (may_sleep n ws place)) (refused 13 place) (done tt)

-- a test, and the next where it is passed
abbrev pub or_else : Told (Unit {0}) → Told (Unit {0}) → Told (Unit {0})
or_else (done u) next = next
or_else (refused number place) next = refused number place

-- for one word at a place of the list 6, 7, 13
abbrev pub test_at : ℕ → List ℕ → ℕ → ℕ → Told (Unit {0})
test_at n ws place w = or_else (word_test n place (decoded_of w)) (sleep_test n ws place (decoded_of w))

-- what the first word of the list that isn't accepted says, from a place on
unfoldable pub words_from : ℕ → List ℕ → ℕ → List ℕ → Told (Unit {0})
words_from n ws place [] = done tt
words_from n ws place (w ∷ rest) = or_else (test_at n ws place w) (words_from n ws (suc place) rest)

-- the list is accepted, whatever the buffer: refusals 3, 4, 5, then words from the first on
unfoldable pub list_test : ℕ → List ℕ → Told (Unit {0})
list_test n ws =
    pick (chip_count n)
    (pick (eqb (length ws % n) 0) (pick (leb (length ws / n) 64) (words_from n ws 0 ws) (refused 5 0)) (refused 4 0))
    (refused 3 0)
