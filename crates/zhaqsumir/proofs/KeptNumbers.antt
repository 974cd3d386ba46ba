-- A chip's settings as nine numbers, and back.
--     chip_legal       what numbers that fit stand for is in range
--     kept_front       and they come back from it
--     kept_fits_lem        the numbers of settings that are in range fit, whatever follows them
--     kept_back        and the settings come back from them
-- Assumes nothing.
use mathlib.Core.Path.{◌≡◌, ap₂, ◌∙◌}
use mathlib.Core.Bool.{true, ◌&&◌}
use mathlib.Core.List.{List, [], ◌∷◌, ◌++◌}
use Prim.Native.Nat.{ℕ, ◌%◌, ◌≤◌, ◌<◌}
use native.Mathlib.Nat.{mod-eq_of_lt}
use native.Mathlib.Omega.{arith}
use borrow.Author.Tests.{le-leb, leb-true}
use lib.Dec.{T, ltb}
use lib.ListN.{length, get_or, take}
use Rattle.base.specs.Bits.{bit_value}
use Rattle.base.proofs.Cuts.{bit_value_back}
use Rattle.settings.specs.declared.Kept.{Kept}
use Rattle.settings.specs.declared.Part.TheVariants as Parts
use Rattle.settings.specs.Settings.{legal_kept}
use Rattle.settings.proofs.Putting.{legal_part}
use Rattle.zhaqsumir.specs.Panels.{byte_at, bit_at}
use Rattle.zhaqsumir.specs.Settings.{kept_mosts, kept_fits, kept_of, kept_numbers}
use Rattle.zhaqsumir.proofs.ChipNumbers.{places_front}
use Rattle.zhaqsumir.proofs.Fitting.{under, number_bit, bit_most}

-- ---- numbers to settings and back

module _ (ns : List ℕ) (fits : kept_fits ns ≡ true) where
  -- each number is below a bound that is above its most
  number : (k : ℕ) {bound : ℕ} → T (ltb k 9) → T (ltb (get_or kept_mosts k 0) bound) → get_or ns k 0 < bound
  unfolding kept_fits
  number k s t = under kept_mosts ns 9 fits k s t

  byte : (k : ℕ) → T (ltb k 9) → T (ltb (get_or kept_mosts k 0) 256) → byte_at ns k ≡ get_or ns k 0
  byte k s t = mod-eq_of_lt (number k s t)

  flag : (k : ℕ) → T (ltb k 9) → T (ltb (get_or kept_mosts k 0) 2) → bit_value (bit_at ns k) ≡ get_or ns k 0
  flag k s t = number_bit (get_or ns k 0) (number k s t)

  pub chip_legal : legal_kept (kept_of ns) ≡ true
  unfolding kept_of
  chip_legal =
      let limit : byte_at ns 6 ≤ 7 = omega (arith, byte 6 tt tt, number 6 {bound = 8} tt tt) in
      let blink : byte_at ns 7 ≤ 255 = omega (arith, byte 7 tt tt, number 7 {bound = 256} tt tt) in
      let custom : byte_at ns 8 ≤ 127 = omega (arith, byte 8 tt tt, number 8 {bound = 128} tt tt) in
      ap₂ ◌&&◌ (ap₂ ◌&&◌ (le-leb (byte_at ns 6) 7 limit) (le-leb (byte_at ns 7) 255 blink)) (le-leb (byte_at ns 8) 127 custom)

  pub kept_front : 9 ≤ length ns → kept_numbers (kept_of ns) ≡ take 9 ns
  unfolding kept_of
  kept_front h =
      (λ i.
      flag 0 tt tt i ∷ flag 1 tt tt i ∷ flag 2 tt tt i ∷ flag 3 tt tt i ∷ flag 4 tt tt i ∷ flag 5 tt tt i
      ∷ byte 6 tt tt i ∷ byte 7 tt tt i ∷ byte 8 tt tt i ∷ [])
      ∙ places_front 9 ns h

-- ---- settings to numbers and back

module _ (c : Kept) (ok : legal_kept c ≡ true) where
  limit_most : c.display.limit ≤ 7
  limit_most = leb-true c.display.limit 7 (legal_part c ok Parts.Display)

  blink_most : c.blink ≤ 255
  blink_most = leb-true c.blink 255 (legal_part c ok Parts.Blink)

  custom_most : c.custom ≤ 127
  custom_most = leb-true c.custom 127 (legal_part c ok Parts.Custom)

  pub kept_fits_lem : (rest : List ℕ) → kept_fits (kept_numbers c ++ rest) ≡ true
  unfolding kept_fits
  kept_fits_lem rest =
      λ i.
      le-leb c.custom 127 custom_most i && (le-leb c.blink 255 blink_most i && (le-leb c.display.limit 7 limit_most i
      && (bit_most c.display.mode i && (bit_most c.system.disp i && (bit_most c.system.keyb i
      && (bit_most c.system.dplr i && (bit_most c.system.sspd i && (bit_most c.system.intm i && true))))))))

  pub kept_back : (rest : List ℕ) → kept_of (kept_numbers c ++ rest) ≡ c
  unfolding kept_of
  kept_back rest =
      let limit : c.display.limit % 256 ≡ c.display.limit = mod-eq_of_lt (omega (arith, limit_most)) in
      let blink : c.blink % 256 ≡ c.blink = mod-eq_of_lt (omega (arith, blink_most)) in
      let custom : c.custom % 256 ≡ c.custom = mod-eq_of_lt (omega (arith, custom_most)) in
      λ i.
      record {
        system = record {
          intm = bit_value_back c.system.intm i;
          sspd = bit_value_back c.system.sspd i;
          dplr = bit_value_back c.system.dplr i;
          keyb = bit_value_back c.system.keyb i;
          disp = bit_value_back c.system.disp i;
        };
        display = record { mode = bit_value_back c.display.mode i; limit = limit i };
        blink = blink i;
        custom = custom i;
      }
