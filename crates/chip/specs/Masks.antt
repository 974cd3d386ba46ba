-- The contacts of a scan as one number, bit 8·DIG + SEG for the contact of a DIG and a SEG: what the search for the smallest closed
-- address goes by. Nothing that is promised to a caller is said here.
-- Assumes nothing.
use Rattle.std.specs.Prelude.{ℕ, ◌+◌, ◌*◌, ◌<◌, ◌≡◌, not, List, eqb}
use Rattle.std.specs.Int.Count.{count_trailing_zeros}
use Rattle.base.specs.Bits.{bit, byte_of}
use Rattle.chip.specs.Scans.{closed}

-- a number that holds the contacts of a scan
abbrev pub Packs : List ℕ → ℕ → Type 0
Packs bytes contacts = (dig seg : ℕ) → dig < 8 → seg < 8 → bit contacts (8 * dig + seg) ≡ closed bytes (8 * seg + dig)

-- the row of a SEG, bit d for DIG d
abbrev pub row_of : ℕ → ℕ → ℕ
row_of contacts seg = byte_of (λ dig. bit contacts (8 * dig + seg))

-- the SEGs whose row isn't empty, bit s for SEG s
abbrev pub closed_segs : ℕ → ℕ
closed_segs contacts = byte_of (λ seg. not (eqb (row_of contacts seg) 0))

-- the lowest of the SEGs of a mask, and the lowest DIG of its row, as an address
abbrev pub lowest_in : ℕ → ℕ → ℕ
lowest_in contacts segs = let seg = count_trailing_zeros 8 segs in 8 * seg + count_trailing_zeros 8 (row_of contacts seg)
