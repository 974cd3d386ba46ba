-- Bits of numbers: bit 0 is the lowest.
-- Assumes nothing.
use Rattle.std.specs.Prelude.{ℕ, ◌+◌, ◌*◌, ◌/◌, ◌%◌, ◌^◌, Bool, true, false, eqb}

-- the field of so many bits that starts at a bit
abbrev pub cut : ℕ → ℕ → ℕ → ℕ
cut n at width = n / 2 ^ at % 2 ^ width

-- whether one bit is set
abbrev pub bit : ℕ → ℕ → Bool
bit n at = eqb (cut n at 1) 1

-- the number that a bit is
abbrev pub bit_value : Bool → ℕ
bit_value true = 1
bit_value false = 0

-- the byte whose bit s is as f says, for s from 0 to 7
abbrev pub byte_of : (ℕ → Bool) → ℕ
byte_of f =
    bit_value (f 0) + 2 * bit_value (f 1) + 4 * bit_value (f 2) + 8 * bit_value (f 3) + 16 * bit_value (f 4) + 32 * bit_value (f 5) + 64 * bit_value (f 6) + 128 * bit_value (f 7)
