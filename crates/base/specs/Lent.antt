-- A piece put into a lent buffer, which keeps every other byte.
-- Assumes nothing.
use Rattle.std.specs.Prelude.{◌≡◌, ℕ, ◌≤◌, List, ◌++◌, length, take, drop}

-- a piece at the front of a buffer; the bytes past it keep their contents
abbrev pub laid : List ℕ → List ℕ → List ℕ
laid piece out = piece ++ drop (length piece) out

-- n counts bytes at the front of a buffer: what lending the part up to n asks of n
abbrev pub Counts : ℕ → List ℕ → Type 0
Counts n out = (n ≤ length out) × (n ≡ length (take n out))

-- a piece from a place on; the bytes before and past it keep their contents
abbrev pub placed : ℕ → List ℕ → List ℕ → List ℕ
placed at piece out = take at out ++ laid piece (drop at out)
