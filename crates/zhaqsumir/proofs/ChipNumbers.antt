-- A chip as 25 numbers, and back.
--     places_front     the first numbers of a list, place by place
--     numbers_front    numbers that fit come back from the record that they stand for
--     chip_length      a record has 25 numbers
--     chip_fits_lem        which fit, whatever follows them
--     chip_back        and the record comes back from them
--     numbers_held     what any numbers stand for is held
-- Assumes nothing.
use mathlib.Core.Path.{◌≡◌, refl, ap, subst, ◌∙◌}
use mathlib.Core.Bool.{true, ◌&&◌}
use mathlib.Core.List.{List, [], ◌∷◌, ◌++◌}
use Prim.Native.Nat.{ℕ, zero, suc, ◌≤◌, ◌<◌}
use native.Mathlib.Nat.{not-suc-le-zero, le_of_suc-le-suc, mod-lt, mod-eq_of_lt}
use native.Mathlib.Omega.{arith}
use borrow.Author.Tests.{le-leb}
use lib.Dec.{T, leb, ltb}
use lib.ListN.{length, get_or, take}
use Rattle.base.specs.Bits.{bit_value}
use Rattle.base.proofs.Cuts.{bit_value_back}
use Rattle.base.proofs.Lists.{below_at}
use Rattle.chip.specs.declared.Chip.{Chip}
use Rattle.chip.specs.Record.{with_digits}
use Rattle.chip.proofs.Held.{HeldChip}
use Rattle.zhaqsumir.specs.Panels.{chip_mosts, chip_fits, byte_at, bit_at, chip_of, record_numbers}
use Rattle.zhaqsumir.proofs.Counts.{at_places, all_places}
use Rattle.zhaqsumir.proofs.Fitting.{under, number_bit, bit_most, digit_most}

-- ---- numbers to a record and back

pub places_front : (n : ℕ) (xs : List ℕ) → n ≤ length xs → at_places (λ k. get_or xs k 0) n ≡ take n xs
places_front zero xs h = refl
places_front (suc n) [] h = absurd (not-suc-le-zero h)
places_front (suc n) (x ∷ xs) h = ap (λ ys. x ∷ ys) (places_front n xs (le_of_suc-le-suc h))

pub numbers_front : (xs : List ℕ) → 25 ≤ length xs → chip_fits xs ≡ true → record_numbers (chip_of xs) ≡ take 25 xs
unfolding chip_fits chip_of record_numbers
numbers_front xs h fits =
    let byte : (j : ℕ) → T (ltb j 25) → T (ltb (get_or chip_mosts j 0) 256) → byte_at xs j ≡ get_or xs j 0 = λ j s t. mod-eq_of_lt (under chip_mosts xs 25 fits j s t) in
    let flag : (j : ℕ) → T (ltb j 25) → T (ltb (get_or chip_mosts j 0) 2) → bit_value (bit_at xs j) ≡ get_or xs j 0 = λ j s t. number_bit (get_or xs j 0) (under chip_mosts xs 25 fits j s t) in
    (λ i.
    mod-eq_of_lt (under chip_mosts xs 25 fits 0 {bound = 65536} tt tt) i ∷ flag 1 tt tt i ∷ byte 2 tt tt i ∷ byte 3 tt tt i
    ∷ flag 4 tt tt i ∷ flag 5 tt tt i ∷ flag 6 tt tt i ∷ flag 7 tt tt i ∷ flag 8 tt tt i ∷ flag 9 tt tt i
    ∷ byte 10 tt tt i ∷ byte 11 tt tt i ∷ byte 12 tt tt i ∷ flag 13 tt tt i
    ∷ byte 14 tt tt i ∷ byte 15 tt tt i ∷ byte 16 tt tt i ∷ byte 17 tt tt i ∷ byte 18 tt tt i ∷ byte 19 tt tt i ∷ byte 20 tt tt i ∷ byte 21 tt tt i
    ∷ byte 22 tt tt i ∷ flag 23 tt tt i ∷ byte 24 tt tt i ∷ [])
    ∙ places_front 25 xs h

-- ---- a record to numbers and back

-- what holds of a record whose eight digits are written out holds of it
by_digits : (P : Chip → Type 0) (c : Chip) → length c.digits ≡ 8 → P (with_digits (at_places (λ k. get_or c.digits k 0) 8) c) → P c
by_digits P c eight p = subst (λ ds. P (with_digits ds c)) (all_places 0 8 c.digits eight) p

-- a number below 256 is no more than 255
byte_most : {n : ℕ} → n < 256 → leb n 255 ≡ true
byte_most {n} h = le-leb n 255 (le_of_suc-le-suc h)

module _ (c : Chip) (h : HeldChip c) where
  pub chip_length : length (record_numbers c) ≡ 25
  unfolding record_numbers
  chip_length = by_digits (λ x. length (record_numbers x) ≡ 25) c h.eight refl

  pub chip_fits_lem : (rest : List ℕ) → chip_fits (record_numbers c ++ rest) ≡ true
  unfolding chip_fits record_numbers
  chip_fits_lem rest =
      let digit : (k : ℕ) → leb (get_or c.digits k 0) 255 ≡ true = λ k. digit_most c.digits k h.digits in
      by_digits (λ x. chip_fits (record_numbers x ++ rest) ≡ true) c h.eight (λ i.
      byte_most h.last i && (bit_most c.keys.interrupt i && (byte_most h.key i
      && (digit 7 i && (digit 6 i && (digit 5 i && (digit 4 i && (digit 3 i && (digit 2 i && (digit 1 i && (digit 0 i
      && (bit_most c.settings.sleeping i && (byte_most h.custom i && (byte_most h.blink i && (byte_most h.limit i
      && (bit_most c.settings.display.mode i && (bit_most c.settings.system.disp i && (bit_most c.settings.system.keyb i
      && (bit_most c.settings.system.dplr i && (bit_most c.settings.system.sspd i && (bit_most c.settings.system.intm i
      && (byte_most h.left i && (byte_most h.code i && (bit_most c.line.latch i
      && (le-leb c.line.register 65535 (le_of_suc-le-suc h.register) i && true)))))))))))))))))))))))))

  pub chip_back : (rest : List ℕ) → chip_of (record_numbers c ++ rest) ≡ c
  unfolding chip_of record_numbers
  chip_back rest =
      let digit : (k : ℕ) → get_or c.digits k 0 < 256 = λ k. below_at 256 c.digits k (omega arith) h.digits in
      by_digits (λ x. chip_of (record_numbers x ++ rest) ≡ x) c h.eight (λ i.
      record {
        line = record {
          register = mod-eq_of_lt h.register i;
          latch = bit_value_back c.line.latch i;
          readout = record { code = mod-eq_of_lt h.code i; left = mod-eq_of_lt h.left i };
        };
        settings = record {
          system = record {
            intm = bit_value_back c.settings.system.intm i;
            sspd = bit_value_back c.settings.system.sspd i;
            dplr = bit_value_back c.settings.system.dplr i;
            keyb = bit_value_back c.settings.system.keyb i;
            disp = bit_value_back c.settings.system.disp i;
          };
          display = record { mode = bit_value_back c.settings.display.mode i; limit = mod-eq_of_lt h.limit i };
          blink = mod-eq_of_lt h.blink i;
          custom = mod-eq_of_lt h.custom i;
          sleeping = bit_value_back c.settings.sleeping i;
        };
        digits = mod-eq_of_lt (digit 0) i ∷ mod-eq_of_lt (digit 1) i ∷ mod-eq_of_lt (digit 2) i ∷ mod-eq_of_lt (digit 3) i
            ∷ mod-eq_of_lt (digit 4) i ∷ mod-eq_of_lt (digit 5) i ∷ mod-eq_of_lt (digit 6) i ∷ mod-eq_of_lt (digit 7) i ∷ [];
        keys = record { code = mod-eq_of_lt h.key i; interrupt = bit_value_back c.keys.interrupt i; last = mod-eq_of_lt h.last i };
      })

-- ---- any numbers

pub numbers_held : (ns : List ℕ) → HeldChip (chip_of ns)
unfolding chip_of
numbers_held ns =
    let byte : (j : ℕ) → byte_at ns j < 256 = λ j. mod-lt (get_or ns j 0) (omega arith) in
    record {
      register = mod-lt (get_or ns 0 0) (omega arith);
      code = byte 2;
      left = byte 3;
      limit = byte 10;
      blink = byte 11;
      custom = byte 12;
      eight = refl;
      digits = (byte 14, (byte 15, (byte 16, (byte 17, (byte 18, (byte 19, (byte 20, (byte 21, tt))))))));
      key = byte 22;
      last = byte 24;
    }
