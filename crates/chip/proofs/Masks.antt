-- Masks of eight bits, and their trailing zeros.
--     any_same        one of eight bits is set, whatever they are called
--     gathered_bit    a number laid three times over itself has eight of its bits in one place
--     any_set         one of eight bits is set exactly where the byte made of them isn't 0
--     only_one        of eight bits of which all but one are masked out, that one is left
--     mask_bit        the mask of a row, moved down by 7 a byte, has the bit of each byte at that byte's place
--     lowest_set      trailing zeros, over all masks of eight bits: that bit is set, and none below it
-- Assumes nothing.
use mathlib.Core.Path.{◌≡◌, refl, ap, ap₂, sym, subst, ◌∙◌}
use mathlib.Core.Bool.{Bool, true, false, not, ◌&&◌, ◌||◌}
use Prim.Native.Nat.{ℕ, ◌+◌, ◌*◌, ◌/◌, ◌^◌, ◌<◌}
use native.Mathlib.Omega.{arith}
use lib.Dec.{T, eqb, ltb, ltb→lt, lit<}
use borrow.Author.Tests.{ne_eqb, not-true}
use lib.Bits.{bit_or}
use lib.Count.{count_trailing_zeros}
use Rattle.base.specs.Bits.{bit, byte_of}
use Rattle.base.specs.Below.{below}
use Rattle.base.proofs.Bits.{or_bit, shr_bit}
use Rattle.base.proofs.Bytes.{byte_below, byte_bit}
use Rattle.base.proofs.Tests.{is_true, and_left, and_right, at_below, by_equality}

-- ---- eight bits at once

-- one of the eight, in the order in which halves are laid over each other
abbrev pub any : (ℕ → Bool) → Bool
any f = ((f 0 || f 4) || (f 2 || f 6)) || ((f 1 || f 5) || (f 3 || f 7))

pub any_same : (f g : ℕ → Bool) → ((e : ℕ) → e < 8 → f e ≡ g e) → any f ≡ any g
any_same f g h = λ i.
    ((h 0 (lit< tt) i || h 4 (lit< tt) i) || (h 2 (lit< tt) i || h 6 (lit< tt) i))
    || ((h 1 (lit< tt) i || h 5 (lit< tt) i) || (h 3 (lit< tt) i || h 7 (lit< tt) i))

-- a number laid over itself, shifted down
abbrev over : ℕ → ℕ → ℕ
over by n = bit_or n (n / 2 ^ by)

-- three times, each time shifted half as far
abbrev pub gathered : ℕ → ℕ → ℕ
gathered by n = over by (over (2 * by) (over (4 * by) n))

over_bit : (by n k : ℕ) → bit (over by n) k ≡ (bit n k || bit n (by + k))
over_bit by n k = or_bit n (n / 2 ^ by) k ∙ ap (λ t. bit n k || t) (shr_bit n by k)

pub gathered_bit : (by n k : ℕ) → bit (gathered by n) k ≡ any (λ e. bit n (by * e + k))
gathered_bit by n k =
    over_bit by (over (2 * by) (over (4 * by) n)) k
    ∙ ap₂ ◌||◌ (half k) (half (by + k))
    ∙ λ i.
    ((at 0 k (omega arith) i || at 4 (4 * by + k) (omega arith) i)
    || (at 2 (2 * by + k) (omega arith) i || at 6 (4 * by + (2 * by + k)) (omega arith) i))
    || ((at 1 (by + k) (omega arith) i || at 5 (4 * by + (by + k)) (omega arith) i)
    || (at 3 (2 * by + (by + k)) (omega arith) i || at 7 (4 * by + (2 * by + (by + k))) (omega arith) i))
  where
    half : (j : ℕ) → bit (over (2 * by) (over (4 * by) n)) j ≡ ((bit n j || bit n (4 * by + j)) || (bit n (2 * by + j) || bit n (4 * by + (2 * by + j))))
    half j = over_bit (2 * by) (over (4 * by) n) j ∙ ap₂ ◌||◌ (over_bit (4 * by) n j) (over_bit (4 * by) n (2 * by + j))

    at : (e j : ℕ) → j ≡ by * e + k → bit n j ≡ bit n (by * e + k)
    at e j h = ap (bit n) h

-- a test that tells two truth values apart
abbrev alike : Bool → Bool → Bool
alike true b = b
alike false b = not b

alike_same : (a b : Bool) → T (alike a b) → a ≡ b
alike_same true true t = refl
alike_same true false t = absurd t
alike_same false true t = absurd t
alike_same false false t = refl

pub any_set : (f : ℕ → Bool) → any f ≡ not (eqb (byte_of f) 0)
any_set f =
    sym (any_same (bit (byte_of f)) f (byte_bit f))
    ∙ alike_same (any (bit (byte_of f))) (not (eqb (byte_of f) 0)) (at_below (λ m. alike (any (bit m)) (not (eqb m 0))) 256 tt (byte_of f) (byte_below f))

-- the others masked out
pub only_one : (f : ℕ → Bool) (d : ℕ) → d < 8 → any (λ e. eqb e d && f e) ≡ f d
only_one f d h = any_same (λ e. eqb e d && f e) (λ e. eqb e d && f d) (λ e l. masked e) ∙ alone (f d)
  where
    masked : (e : ℕ) → (eqb e d && f e) ≡ (eqb e d && f d)
    masked e = by_equality e d (λ same. ap (λ x. eqb e d && f x) same) (λ other. let no = ne_eqb e d other in ap (λ t. t && f e) no ∙ sym (ap (λ t. t && f d) no))

    alone : (b : Bool) → any (λ e. eqb e d && b) ≡ b
    alone true = alike_same (any (λ e. eqb e d && true)) true (at_below (λ k. alike (any (λ e. eqb e k && true)) true) 8 tt d h)
    alone false = alike_same (any (λ e. eqb e d && false)) false (at_below (λ k. alike (any (λ e. eqb e k && false)) false) 8 tt d h)

-- the mask of a row has a bit of each byte: moved down by 7 a byte, each comes to the place of its byte
pub mask_bit : (e d : ℕ) → e < 8 → d < 8 → bit 0x0101010101010101 (7 * e + d) ≡ eqb e d
mask_bit e d h l =
    alike_same (bit 0x0101010101010101 (7 * e + d)) (eqb e d)
    (at_below (λ j. alike (bit 0x0101010101010101 (7 * e + j)) (eqb e j)) 8 (at_below (λ i. below (λ j. alike (bit 0x0101010101010101 (7 * i + j)) (eqb i j)) 8) 8 tt e h) d l)

-- ---- trailing zeros

-- that bit is set, and none below it
abbrev is_lowest : ℕ → ℕ → Bool
is_lowest mask place = ltb place 8 && bit mask place && below (λ j. not (bit mask j)) place

-- over all masks of eight bits at once
lowest_tested : (mask : ℕ) → mask < 256 → T (eqb mask 0 || is_lowest mask (count_trailing_zeros 8 mask))
unfolding count_trailing_zeros
lowest_tested = at_below (λ mask. eqb mask 0 || is_lowest mask (count_trailing_zeros 8 mask)) 256 tt

pub lowest_set : (mask : ℕ) → mask < 256 → (mask ≡ 0 → ⊥)
    → (count_trailing_zeros 8 mask < 8) × (bit mask (count_trailing_zeros 8 mask) ≡ true) × ((j : ℕ) → j < count_trailing_zeros 8 mask → bit mask j ≡ false)
lowest_set mask h some =
    let place = count_trailing_zeros 8 mask in
    let all : T (is_lowest mask place) = subst (λ t. T (t || is_lowest mask place)) (ne_eqb mask 0 some) (lowest_tested mask h) in
    let two = and_left (ltb place 8 && bit mask place) (below (λ j. not (bit mask j)) place) all in (
      ltb→lt place 8 (and_left (ltb place 8) (bit mask place) two),
      is_true (bit mask place) (and_right (ltb place 8) (bit mask place) two),
      λ j l. not-true (bit mask j) (is_true (not (bit mask j)) (at_below (λ m. not (bit mask m)) place (and_right (ltb place 8 && bit mask place) (below (λ m. not (bit mask m)) place) all) j l)),
    )
