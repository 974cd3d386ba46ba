-- The same frames as a raw stream and as a capture text: an item's raw bytes, and its line. No contract cites these: proofs/SameFrames.antt
-- says that without a recorded DOUT both write the same.
-- Assumes nothing.
use Rattle.std.specs.Prelude.{◌≡◌, ℕ, ◌+◌, ◌%◌, ◌<◌, true, List, [], ◌∷◌, ◌++◌, length}
use Rattle.base.specs.Below.{AllBelow}
use Rattle.lines.specs.Lines.{line_for}
use Rattle.reads.specs.Reads.{is_sample, next_offset}
use Rattle.streams.specs.Raw.{Item, sample, scanned}

-- it may stand in a stream of N chips
abbrev pub IsGiven : ℕ → Item → Type 0
IsGiven n (sample b) = is_sample b ≡ true
IsGiven n (scanned k bytes) = (k < n) × (length bytes ≡ 8) × AllBelow 256 bytes

-- each of them may
unfoldable pub AllGiven : ℕ → List Item → Type 0
AllGiven n [] = Unit {0}
AllGiven n (g ∷ gs) = IsGiven n g × AllGiven n gs

-- none of them is a sample with a recorded DOUT
unfoldable pub AllPlain : List Item → Type 0
AllPlain [] = Unit {0}
AllPlain (sample b ∷ gs) = (b < 0x08) × AllPlain gs
AllPlain (scanned k bytes ∷ gs) = AllPlain gs

-- its raw bytes
abbrev pub raw_of : Item → List ℕ
raw_of (sample b) = b ∷ []
raw_of (scanned k bytes) = (0x80 + k) ∷ bytes

-- its line's bytes: 01 and the three levels, or 02, chip, 8 scan bytes
abbrev pub frame_of : Item → List ℕ
frame_of (sample b) = 0x01 ∷ (b % 8) ∷ []
frame_of (scanned k bytes) = 0x02 ∷ k ∷ bytes

-- the raw bytes of items
unfoldable pub raw_of_all : List Item → List ℕ
raw_of_all [] = []
raw_of_all (g ∷ gs) = raw_of g ++ raw_of_all gs

-- the lines of items, one each
unfoldable pub text_of_all : List Item → List ℕ
text_of_all [] = []
text_of_all (g ∷ gs) = line_for (frame_of g) ++ text_of_all gs

-- the offset past bytes
unfoldable pub past_bytes : ℕ → List ℕ → ℕ
past_bytes offset [] = offset
past_bytes offset (b ∷ bytes) = past_bytes (next_offset offset) bytes

-- the raw stream: 00 01 N, and the items
abbrev pub raw_stream : ℕ → List Item → List ℕ
raw_stream n gs = 0x00 ∷ 0x01 ∷ n ∷ raw_of_all gs

-- the capture text: the line 00 01 N, and a line for each item
abbrev pub capture_text : ℕ → List Item → List ℕ
capture_text n gs = line_for (0x00 ∷ 0x01 ∷ n ∷ []) ++ text_of_all gs
