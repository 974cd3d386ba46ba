-- What this crate's functions answer: how far a line goes on, the bytes that a frame holds, and a line put where it fits. No entry's
-- promise cites these.
-- Assumes nothing.
use Rattle.std.specs.Prelude.{◌≡◌, ℕ, suc, ◌+◌, List, [], ◌∷◌, eqb, leb, length, replicate, take}
use Rattle.base.specs.Lent.{laid, placed}
use Rattle.base.specs.Pick.{pick}
use Rattle.lines.specs.declared.Frame.{Frame}
use Rattle.lines.specs.Lines.{newline, ended, bytes_in}

-- how many characters stand before the next 0AH, or the text's end
unfoldable pub line_length : List ℕ → ℕ
line_length [] = 0
line_length (ch ∷ text) = pick (eqb ch newline) 0 (suc (line_length text))

-- the bytes of a line that a frame has room for; no form of a line is longer
abbrev pub held_in : List ℕ → List ℕ
held_in chars = pick (leb (length chars) 66) (bytes_in (ended chars)) []

-- the frame of bytes: they stand at the front, and zeros past them
abbrev pub frame_for : List ℕ → Frame
frame_for bytes = record { bytes = laid bytes (replicate 33 0); count = length bytes }

-- the bytes that a frame holds
abbrev pub held_by : Frame → List ℕ
held_by f = take f.count f.bytes

-- what is put of a piece at a place of a buffer: the whole where it fits, nothing where it doesn't
abbrev pub fitting : List ℕ → ℕ → List ℕ → List ℕ
fitting piece at out = pick (leb (at + length piece) (length out)) piece []

-- a piece was put at a place, and the answer is the place past it
pub record Puts (piece : List ℕ) (at : ℕ) (out : List ℕ) (r : ℕ) (out' : List ℕ) : Type 0 where
  pub answer : r ≡ at + length piece
  pub bytes : out' ≡ placed at piece out
