-- The chip halves of P1 to P12 hold.
--     at_load        what a LOAD rise does with a word whose meaning is known
--     chip_cases_lem     every claim of specs/Cases.antt
-- Assumes nothing.
use mathlib.Core.Path.{◌≡◌, refl, ap, ap₂, ◌∙◌}
use mathlib.Core.Bool.{Bool, true, false}
use mathlib.Core.List.{List, ◌∷◌}
use Prim.Native.Nat.{ℕ, ◌≤◌, ◌<◌}
use native.Mathlib.Omega.{arith}
use lib.ListN.{get_or}
use Rattle.base.specs.Claims.{All}
use Rattle.base.specs.Refusals.{Told, done}
use Rattle.word.specs.Words.{decoded_of, unlisted}
use Rattle.word.specs.declared.System.{System}
use Rattle.word.specs.declared.Command.{Command}
use Rattle.word.specs.declared.Command.TheVariants.{BarLevel, SegmentClear, SegmentSet, Reset, RotateLeft, SystemParameters, DisplayParameters, ReadKey, LoadDigit}
use Rattle.word.proofs.Rows.{fits_row}
use Rattle.chip.specs.declared.Chip.{Chip}
use Rattle.chip.specs.Record.{none, with_keys}
use Rattle.chip.specs.Commands.{applied, applied_word, obey, reset, system, read_key, bar, segment, dout, moved_left}
use Rattle.chip.specs.Edges.{idle, loaded, stepped, clocked}
use Rattle.chip.specs.Segments.{bcd, shape}
use Rattle.chip.specs.Scans.{first_closed, result, code_of, released, keyed, scanned_by}
use Rattle.chip.specs.Cases.{Scanning, played, shown, read_frame, clocks, load_and_clocks, read_levels, chip_cases}
use Rattle.chip.proofs.Valid.{valid_facts}
use Rattle.chip.proofs.OneScan.{two_scans, keyed_twice, released_twice}

-- a part of a chip after a LOAD rise with a word whose meaning is known
pub at_load {ℓ} : {A : Type ℓ} (word : ℕ) (o : Told Command) → decoded_of word ≡ o → (part : Chip → A) (c : Chip) → c.line.register ≡ word
    → part (loaded c) ≡ part (applied_word o c)
unfolding loaded
at_load word o e part c r = ap (λ (x : Told Command). part (applied_word x c)) (ap decoded_of r ∙ e)

-- the parts that several cases look at
abbrev digits_of : Chip → List ℕ
digits_of c = c.digits

abbrev system_of : Chip → System
system_of c = c.settings.system

-- ---- key scans of a chip that takes them

-- P10 and P11 for any address: held after two scans
held_case : (r : ℕ) → r < none → Scanning (λ c. (scanned_by r (scanned_by r c)).keys.code ≡ code_of r)
held_case r h c w k = ap (λ (x : Chip). x.keys.code) (two_scans r r c w k) ∙ keyed_twice r c.keys h

-- P10 for any address: released after two empty scans
released_case : (r : ℕ) → r < none → Scanning (λ c. (scanned_by none (scanned_by none (scanned_by r (scanned_by r c)))).keys.code ≡ released (code_of r))
released_case r h c w k =
    let held = keyed r (keyed r c.keys) in
    let n : r ≡ none → ⊥ = omega arith in
    ap (λ (x : Chip). (scanned_by none (scanned_by none x)).keys.code) (two_scans r r c w k)
    ∙ ap (λ (x : Chip). x.keys.code) (two_scans none none (with_keys held c) w k)
    ∙ released_twice held n
    ∙ ap released (keyed_twice r c.keys h)

-- ---- P12

module _ (c : Chip) (h : c.line.register ≤ 4095) where
  -- the chip with KEYB and the code exchanged, after the bits 1, 1, 1, 0 and LOAD low
  abbrev framed : Bool → ℕ → Chip
  framed keyb code =
      played idle read_frame
      (record {
        line = c.line;
        settings =
            record {
              system =
                  record {
                    intm = c.settings.system.intm;
                    sspd = c.settings.system.sspd;
                    dplr = c.settings.system.dplr;
                    keyb = keyb;
                    disp = c.settings.system.disp;
                  };
              display = c.settings.display;
              blink = c.settings.blink;
              custom = c.settings.custom;
              sleeping = c.settings.sleeping;
            };
        digits = c.digits;
        keys = record { code = code; interrupt = c.keys.interrupt; last = c.keys.last };
      })

  -- the register now begins as read key's row, whatever it held
  read_key_lem : decoded_of (framed true 0x63).line.register ≡ done ReadKey
  unfolding stepped clocked
  read_key_lem = fits_row (framed true 0x63).line.register 14 tt (omega arith)

  -- so the LOAD rise reads the key
  readout_case : c.settings.system.keyb ≡ true → c.keys.code ≡ 0x63 → shown 3 load_and_clocks (played idle read_frame c) ≡ read_levels
  unfolding stepped clocked loaded applied obey read_key dout
  readout_case k e =
      ap₂ (λ b n. shown 3 load_and_clocks (framed b n)) k e
      ∙ ap (λ (o : Told Command). dout (applied_word o (framed true 0x63)) ∷ shown 7 clocks (applied_word o (framed true 0x63))) read_key_lem

-- ---- all of them

-- one claim, and those after it
infixr 5 ◌also◌
◌also◌ : {A B : Type 0} → A → B → A × B
a also b = (a, b)

pub chip_cases_lem : All chip_cases
unfolding decoded_of applied obey reset system bar segment bcd shape result first_closed
chip_cases_lem =
    -- P1
    at_load 0x201 (done Reset) refl (λ (d : Chip). d.settings)
    also at_load 0x201 (done Reset) refl digits_of
    also at_load 0x201 (done Reset) refl (λ (d : Chip). d.keys)
    also at_load 0x201 (done Reset) refl (λ (d : Chip). d.line.readout.left)
    also at_load 0x201 (done Reset) refl (λ (d : Chip). d.line.register)
    also at_load 0x201 (done Reset) refl (λ (d : Chip). d.line.latch)
    -- P2 to P6
    also at_load 0xA79 (done (LoadDigit 2 0x79)) refl digits_of
    also at_load 0x1BA (done (SegmentClear 0x3A)) refl digits_of
    also refl
    also at_load 0x1C6 (done (SegmentSet 0x06)) refl digits_of
    also refl
    also at_load 0x109 (done (BarLevel 9)) refl digits_of
    also at_load 0x140 (done (BarLevel 64)) refl digits_of
    also at_load 0x141 (done (BarLevel 65)) refl digits_of
    -- P7, P8
    also at_load 0x404 unlisted refl (λ (d : Chip). d)
    also at_load 0x403 (done (SystemParameters (record { intm = false; sspd = false; dplr = false; keyb = true; disp = true }))) refl system_of
    also at_load 0x590 (done (DisplayParameters (record { mode = true; limit = 1 }))) refl (λ (d : Chip). d.settings.display)
    -- P9
    also (λ c r e. at_load 0x301 (done RotateLeft) refl digits_of c r ∙ ap (λ (ds : List ℕ). moved_left (get_or ds 7 0) ds) e)
    -- P10, P11, P12
    also held_case 0x23 (omega arith)
    also released_case 0x23 (omega arith)
    also held_case 0x0C (omega arith)
    also (λ c v. readout_case c ((valid_facts c).0 v).register)
    -- MODE 1
    also (λ custom. refl)
    also (λ custom. refl)
    also (λ custom h. omega arith)
    also tt
