-- Bits of numbers: of what is done bit by bit, of a number shifted down, and of its bytes.
--     or_bit          a bit of an OR
--     and_bit         a bit of an AND
--     shr_bit         a bit of a number that was shifted down
--     byte_of_bit     a bit of one of a number's bytes
--     low_byte        the low eight bits of a number, by what they are
-- Assumes nothing.
use mathlib.Core.Path.{◌≡◌, refl, ap, sym, ◌∙◌}
use mathlib.Core.Bool.{Bool, true, ◌&&◌, ◌||◌}
use Prim.Native.Nat.{ℕ, ◌+◌, ◌*◌, ◌/◌, ◌%◌, ◌^◌, ◌<◌}
use native.Mathlib.Nat.{mod-lt, lt_of_le_of_lt}
use lib.Dec.{eqb, lit<}
use lib.Bits.{bit_and, bit_or, and_shr, and_mod, or_shr, or_mod, and_le_r, and_mask}
use lib.Pow.{shr-shr}
use Rattle.base.specs.Bits.{cut, bit, byte_of}
use Rattle.base.specs.Below.{EachBelow}
use Rattle.base.proofs.Bytes.{byte_back, byte_same}
use Rattle.base.proofs.Tests.{is_true, at_below, each_below}

-- a bit of what is done bit by bit
bit_by_bit : (op : ℕ → ℕ → ℕ) (f : Bool → Bool → Bool) → ((a b k : ℕ) → op a b / 2 ^ k ≡ op (a / 2 ^ k) (b / 2 ^ k))
    → ((a b k : ℕ) → op a b % 2 ^ k ≡ op (a % 2 ^ k) (b % 2 ^ k))
    → EachBelow (λ p. EachBelow (λ q. eqb (op p q) 1 ≡ f (eqb p 1) (eqb q 1)) 2) 2
    → (a b k : ℕ) → bit (op a b) k ≡ f (bit a k) (bit b k)
bit_by_bit op f shr rem two a b k =
    ap (λ x. eqb (x % 2) 1) (shr a b k)
    ∙ ap (λ x. eqb x 1) (rem (a / 2 ^ k) (b / 2 ^ k) 1)
    ∙ each_below (λ q. eqb (op (a / 2 ^ k % 2) q) 1 ≡ f (eqb (a / 2 ^ k % 2) 1) (eqb q 1)) 2
    (each_below (λ p. EachBelow (λ q. eqb (op p q) 1 ≡ f (eqb p 1) (eqb q 1)) 2) 2 two (a / 2 ^ k % 2) (mod-lt (a / 2 ^ k) (lit< tt)))
    (b / 2 ^ k % 2)
    (mod-lt (b / 2 ^ k) (lit< tt))

pub or_bit : (a b k : ℕ) → bit (bit_or a b) k ≡ (bit a k || bit b k)
or_bit = bit_by_bit bit_or ◌||◌ or_shr or_mod ((refl, (refl, tt)), ((refl, (refl, tt)), tt))

-- the mask's bit first
pub and_bit : (n mask k : ℕ) → bit (bit_and n mask) k ≡ (bit mask k && bit n k)
and_bit = bit_by_bit bit_and (λ p q. q && p) and_shr and_mod ((refl, (refl, tt)), ((refl, (refl, tt)), tt))

pub shr_bit : (n by k : ℕ) → bit (n / 2 ^ by) k ≡ bit n (by + k)
shr_bit n by k = ap (λ x. eqb (x % 2) 1) (shr-shr n by k)

-- the mask of eight bits keeps each of them
ones : (s : ℕ) → s < 8 → bit 255 s ≡ true
ones s h = is_true (bit 255 s) (at_below (bit 255) 8 tt s h)

low_bit : (n s : ℕ) → s < 8 → bit (bit_and n 255) s ≡ bit n s
low_bit n s h = and_bit n 255 s ∙ ap (λ t. t && bit n s) (ones s h)

-- a bit of one of a number's bytes
pub byte_of_bit : (n d s : ℕ) → s < 8 → bit (cut n (8 * d) 8) s ≡ bit n (8 * d + s)
byte_of_bit n d s h = ap (λ x. bit x s) (sym (and_mask (n / 2 ^ (8 * d)) 8)) ∙ low_bit (n / 2 ^ (8 * d)) s h ∙ shr_bit n (8 * d) s

-- the low eight bits of a number, by what they are
pub low_byte : (n : ℕ) (f : ℕ → Bool) → ((s : ℕ) → s < 8 → bit n s ≡ f s) → bit_and n 255 ≡ byte_of f
low_byte n f e =
    sym (byte_back (bit_and n 255) (lt_of_le_of_lt (and_le_r n 255) (lit< tt)))
    ∙ byte_same (bit (bit_and n 255)) f (λ s h. low_bit n s h ∙ e s h)
