-- Laws of `cut`: what a field is at the ends of a number, how small it is, and that a mask is a remainder; of a bit as a number.
-- Assumes nothing.
use mathlib.Core.Path.{◌≡◌, refl, ap, sym, ◌∙◌}
use mathlib.Core.Bool.{Bool, true, false}
use Prim.Native.Nat.{ℕ, ◌+◌, ◌-◌, ◌*◌, ◌/◌, ◌%◌, ◌^◌, ◌≤◌, ◌<◌}
use native.Mathlib.Nat.{lt_of_lt_of_le, lt_of_le_of_lt, div-eq_of_lt, div-le_self, mod-eq_of_lt, mod-lt, zero-mod, one-mul, div-one}
use native.Mathlib.Omega.{arith}
use lib.Dec.{eqb}
use lib.Pow.{pow_pos, pow_mono, pow-lt, split, shr-shr}
use lib.Bits.{bit_and, and_mask}
use Rattle.base.specs.Bits.{cut, bit_value}

-- past a number's bits there is nothing
pub cut_past : (w n at width : ℕ) → n < 2 ^ w → w ≤ at → cut n at width ≡ 0
cut_past w n at width fits past =
    ap (λ x. x % 2 ^ width) (div-eq_of_lt (lt_of_lt_of_le fits (pow_mono past))) ∙ zero-mod (2 ^ width)

-- as many bits as a number has are all of it
pub cut_whole : (w n at width : ℕ) → n < 2 ^ w → w ≤ width → cut n at width ≡ n / 2 ^ at
cut_whole w n at width fits past =
    mod-eq_of_lt (lt_of_le_of_lt (div-le_self n (2 ^ at)) (lt_of_lt_of_le fits (pow_mono past)))

-- a field that starts at bit 0 is a remainder
pub cut_zero : (n width : ℕ) → cut n 0 width ≡ n % 2 ^ width
cut_zero n width = ap (λ x. x % 2 ^ width) (div-one n)

-- a field of so many bits is below that power of two
pub cut_lt : (n at width : ℕ) → cut n at width < 2 ^ width
cut_lt n at width = mod-lt (n / 2 ^ at) (pow_pos width)

-- what stands from bit k on is what stands from bit k + j on, and then the field of j bits at k
pub cut_deeper : (n k j : ℕ) → n / 2 ^ k ≡ n / 2 ^ (k + j) * 2 ^ j + cut n k j
cut_deeper n k j = sym (split (n / 2 ^ k) j) ∙ ap (λ x. x * 2 ^ j + cut n k j) (shr-shr n k j)

-- one shifted left by less than the word's width is that power of two
pub power_kept : (w width : ℕ) → width < w → 1 * 2 ^ width % 2 ^ w ≡ 2 ^ width
power_kept w width h = ap (λ x. x % 2 ^ w) (one-mul (2 ^ width)) ∙ mod-eq_of_lt (pow-lt h)

-- a number under the mask of all ones below a power
pub masked : (w m width : ℕ) → width < w → bit_and m (1 * 2 ^ width % 2 ^ w - 1) ≡ m % 2 ^ width
masked w m width h = ap (λ x. bit_and m (x - 1)) (power_kept w width h) ∙ and_mask m width

-- the number of a bit is 0 or 1
pub bit_value_lt : (b : Bool) → bit_value b < 2
bit_value_lt true = omega arith
bit_value_lt false = omega arith

-- and a bit is read back from it
pub bit_value_back : (b : Bool) → eqb (bit_value b) 1 ≡ b
bit_value_back true = refl
bit_value_back false = refl
