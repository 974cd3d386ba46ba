-- What is held of a line or of an item that isn't whole yet, from one block to the next.
-- Assumes nothing.
use Rattle.std.specs.Prelude.{ℕ, ◌+◌, List, [], ◌∷◌, take, replicate, nat_le, nat_lt, slice_set}
use Rattle.base.specs.Pick.{pick}
use Rattle.lines.specs.Answers.{held_in}
use Rattle.streams.specs.declared.held.Held.{Held}

-- nothing
abbrev pub none_held : Held
none_held = record { bytes = replicate 66 0; count = 0 }

-- more than any line has
abbrev pub too_long : Held
too_long = record { bytes = replicate 66 0; count = 67 }

-- one more byte
abbrev pub grown_one : Held → ℕ → Held
grown_one h b = pick (nat_lt h.count 66) (record { bytes = slice_set h.bytes h.count b; count = h.count + 1 }) too_long

-- more bytes, one after another
unfoldable pub grown_by : Held → List ℕ → Held
grown_by h [] = h
grown_by h (b ∷ bytes) = grown_by (grown_one h b) bytes

-- the bytes of the line that is held; none, where it is too long
abbrev pub line_held : Held → List ℕ
line_held h = pick (nat_le h.count 66) (held_in (take h.count h.bytes)) []
