-- Bytes by their bits, over all bytes and all eight bits at once.
--     byte_below      a byte made of bits is below 256
--     byte_bit        each of its eight bits is the one that it was made of
--     byte_same       bytes whose eight bits agree are the same
--     byte_back       a byte is made of its own bits
--     bar_byte        the byte of a digit under a bar, by the number of its lit segments
--     bit_made        a byte with one bit made on or off, by a mask
-- Assumes nothing.
use mathlib.Core.Path.{◌≡◌, ap, ◌∙◌}
use mathlib.Core.Bool.{Bool, true, false}
use Prim.Native.Nat.{ℕ, ◌+◌, ◌-◌, ◌*◌, ◌/◌, ◌%◌, ◌^◌, ◌<◌}
use native.Mathlib.Omega.{arith}
use lib.Dec.{T, eqb, leb, ltb, lit<}
use lib.Bits.{bit_and, bit_or}
use Rattle.base.specs.Pick.{pick}
use Rattle.base.specs.Bits.{cut, bit, bit_value, byte_of}
use Rattle.base.specs.Below.{below, EachBelow}
use Rattle.base.proofs.Cuts.{bit_value_lt, bit_value_back}
use Rattle.base.proofs.Tests.{at_below, eq_below, each_below}

-- a byte made of bits, by the numbers of its bits
byte_is : (f : ℕ → Bool) → (byte_of f < 256) × EachBelow (λ s. cut (byte_of f) s 1 ≡ bit_value (f s)) 8
byte_is f =
    let a = bit_value_lt (f 0) in
    let b = bit_value_lt (f 1) in
    let c = bit_value_lt (f 2) in
    let d = bit_value_lt (f 3) in
    let e = bit_value_lt (f 4) in
    let g = bit_value_lt (f 5) in
    let h = bit_value_lt (f 6) in
    let i = bit_value_lt (f 7) in (
      omega arith,
      (omega arith, (omega arith, (omega arith, (omega arith, (omega arith, (omega arith, (omega arith, (omega arith, tt)))))))),
    )

pub byte_below : (f : ℕ → Bool) → byte_of f < 256
byte_below f = (byte_is f).0

pub byte_bit : (f : ℕ → Bool) (s : ℕ) → s < 8 → bit (byte_of f) s ≡ f s
byte_bit f s h = ap (λ x. eqb x 1) (each_below (λ k. cut (byte_of f) k 1 ≡ bit_value (f k)) 8 (byte_is f).1 s h) ∙ bit_value_back (f s)

-- bytes whose eight bits agree
pub byte_same : (f g : ℕ → Bool) → ((s : ℕ) → s < 8 → f s ≡ g s) → byte_of f ≡ byte_of g
byte_same f g e = λ i.
    bit_value (e 0 (lit< tt) i) + 2 * bit_value (e 1 (lit< tt) i) + 4 * bit_value (e 2 (lit< tt) i) + 8 * bit_value (e 3 (lit< tt) i)
    + 16 * bit_value (e 4 (lit< tt) i)
    + 32 * bit_value (e 5 (lit< tt) i)
    + 64 * bit_value (e 6 (lit< tt) i)
    + 128 * bit_value (e 7 (lit< tt) i)

pub byte_back : (byte : ℕ) → byte < 256 → byte_of (bit byte) ≡ byte
byte_back = eq_below (λ b. byte_of (bit b)) (λ b. b) 256 tt

-- two functions of two numbers that are seen to agree below two bounds
eq_below₂ : (f g : ℕ → ℕ → ℕ) (m n : ℕ) → T (below (λ i. below (λ j. eqb (f i j) (g i j)) n) m) → (i j : ℕ) → i < m → j < n → f i j ≡ g i j
eq_below₂ f g m n t i j h l = eq_below (f i) (g i) n (at_below (λ x. below (λ y. eqb (f x y) (g x y)) n) m t i h) j l

-- how many segments of a digit are below a level
abbrev lit_of_lem : ℕ → ℕ → ℕ
lit_of_lem level dig = (level + 7 - dig) / 8

pub bar_byte : (dig level : ℕ) → dig < 8 → level < 256
    → byte_of (λ s. ltb (8 * s + dig) level) ≡ pick (leb 8 (lit_of_lem level dig)) 255 (cut 255 (8 - lit_of_lem level dig) 8)
bar_byte =
    eq_below₂ (λ dig level. byte_of (λ s. ltb (8 * s + dig) level))
    (λ dig level. pick (leb 8 (lit_of_lem level dig)) 255 (cut 255 (8 - lit_of_lem level dig) 8)) 8 256 tt

-- a byte with a bit put in, or masked out
abbrev made : Bool → ℕ → ℕ → ℕ
made on seg byte = pick on (bit_or byte (1 * 2 ^ seg % 256)) (bit_and byte (255 - 1 * 2 ^ seg % 256))

pub bit_made : (on : Bool) (seg byte : ℕ) → seg < 8 → byte < 256 → byte_of (λ s. pick (eqb s seg) on (bit byte s)) ≡ made on seg byte
bit_made true = eq_below₂ (λ seg byte. byte_of (λ s. pick (eqb s seg) true (bit byte s))) (made true) 8 256 tt
bit_made false = eq_below₂ (λ seg byte. byte_of (λ s. pick (eqb s seg) false (bit byte s))) (made false) 8 256 tt
