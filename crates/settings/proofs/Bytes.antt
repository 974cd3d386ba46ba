-- The frames of a settings text, both ways: what is written is of the form and gives the settings back, and what is of the form is what
-- its settings are written as.
--     OneToMost, count_within                 N is 1 to 8
--     version_known                           the version of a text of N chips is no newer than the newest
--     system_below                            a system byte is a byte
--     InRange, in_range_lem, range_legal          legal settings, field by field
--     chip_frame_is, chip_frame_back          a chip's frame is of the form, and gives its settings
--     chip_frame_below                        its bytes are bytes
--     chip_length                             bytes of a chip's form are six
--     chip_bytes_back, chip_bytes_legal       they are the frame of the settings that they give, and those are legal
--     first_frame_is, first_frame_below       the first frame of N chips is of the form, and its bytes are bytes
--     first_length, first_count               bytes of the first form are three, and their N is 1 to 8
--     first_frame_back                        they are the frame of their N
-- Assumes nothing.
use mathlib.Core.Path.{◌≡◌, refl, ap, ap₂, sym, ◌∙◌}
use mathlib.Core.Bool.{Bool, true, false, not, ◌&&◌, and-eq-true_iff}
use mathlib.Core.List.{List, [], ◌∷◌}
use Prim.Native.Nat.{ℕ, ◌+◌, ◌*◌, ◌≤◌, ◌<◌}
use native.Mathlib.Omega.{arith}
use borrow.Author.Tests.{le-leb, leb-true, eq-eqb, eqb-true, not-true}
use lib.Dec.{eqb, leb, lit<}
use lib.ListN.{length, get_or}
use Rattle.base.specs.Below.{AllBelow}
use Rattle.base.specs.Bits.{cut, bit, bit_value, byte_of}
use Rattle.base.specs.Pick.{pick}
use Rattle.base.proofs.Bytes.{byte_below, byte_bit}
use Rattle.base.proofs.Cuts.{cut_lt, bit_value_lt, bit_value_back}
use Rattle.base.proofs.Lists.{below_at}
use Rattle.base.proofs.Picks.{pick_yes}
use Rattle.base.proofs.Tests.{eq_below}
use Rattle.word.specs.declared.Display.{Display}
use Rattle.word.specs.declared.System.{System}
use Rattle.chain.specs.Chain.{most, chip_count}
use Rattle.settings.specs.declared.Kept.{Kept}
use Rattle.settings.specs.Reading.{is_first, is_chip, system_in, display_in, kept_by}
use Rattle.settings.specs.Settings.{newest, version_for, legal_kept, system_byte, display_byte, first_frame, chip_frame}

-- ---- N, and the version

-- N is 1 to 8
pub record OneToMost (n : ℕ) : Type 0 where
  pub some : 1 ≤ n
  pub few : n ≤ most

pub count_within : (n : ℕ) → chip_count n ≡ true → OneToMost n
count_within n e =
    let t = (and-eq-true_iff (leb 1 n) (leb n most)).0 e in
    record { some = leb-true 1 n t.0; few = leb-true n most t.1 }

pub version_known : (n : ℕ) → chip_count n ≡ true → version_for n ≤ newest
unfolding version_for
version_known n e = omega arith

-- ---- the system byte

pub system_below : (s : System) → system_byte s < 256
system_below s = omega arith

module _ (s : System) where
  -- the bits from 0 up
  abbrev bits : ℕ → Bool
  bits k = get_or (s.disp ∷ s.keyb ∷ false ∷ s.dplr ∷ s.sspd ∷ s.intm ∷ []) k false

  system_is : system_byte s ≡ byte_of bits
  system_is = omega (arith, byte_below bits)

  system_bit : (k : ℕ) → k < 8 → bit (system_byte s) k ≡ bits k
  system_bit k h = ap (λ byte. bit byte k) system_is ∙ byte_bit bits k h

  system_high : cut (system_byte s) 6 2 ≡ 0
  system_high =
      eq_below (λ b. cut b 6 2) (λ b. bit_value (bit b 6) + 2 * bit_value (bit b 7)) 256 tt (system_byte s) (system_below s)
      ∙ ap₂ (λ x y. bit_value x + 2 * bit_value y) (system_bit 6 (lit< tt)) (system_bit 7 (lit< tt))

  system_back : system_in (system_byte s) ≡ s
  system_back =
      λ j.
      record {
        intm = system_bit 5 (lit< tt) j;
        sspd = system_bit 4 (lit< tt) j;
        dplr = system_bit 3 (lit< tt) j;
        keyb = system_bit 1 (lit< tt) j;
        disp = system_bit 0 (lit< tt) j;
      }

-- with no bit outside its fields, a system byte is that of its parameters
system_again : (byte : ℕ) → byte < 256 → cut byte 6 2 ≡ 0 → bit byte 2 ≡ false → system_byte (system_in byte) ≡ byte
system_again byte h p q =
    sym (pick_yes (system_byte (system_in byte)) byte (ap₂ ◌&&◌ (eq-eqb (cut byte 6 2) 0 p) (ap not q)))
    ∙ eq_below (λ b. pick (eqb (cut b 6 2) 0 && not (bit b 2)) (system_byte (system_in b)) b) (λ b. b) 256 tt byte h

-- ---- the display byte

limit_back : (mode : Bool) (limit : ℕ) → limit < 8 → cut (8 * bit_value mode + limit) 0 3 ≡ limit
limit_back true = eq_below (λ l. cut (8 + l) 0 3) (λ l. l) 8 tt
limit_back false = eq_below (λ l. cut (0 + l) 0 3) (λ l. l) 8 tt

module _ (d : Display) (h : d.limit ≤ 7) where
  display_most : display_byte d ≤ 0x0F
  display_most = omega (arith, bit_value_lt d.mode)

  display_back : display_in (display_byte d) ≡ d
  display_back =
      let high : cut (display_byte d) 3 1 ≡ bit_value d.mode = omega (arith, bit_value_lt d.mode) in
      λ j.
      record {
        mode = (ap (λ x. eqb x 1) high ∙ bit_value_back d.mode) j;
        limit = limit_back d.mode d.limit (omega arith) j;
      }

display_again : (byte : ℕ) → byte ≤ 0x0F → display_byte (display_in byte) ≡ byte
display_again byte h = eq_below (λ b. display_byte (display_in b)) (λ b. b) 16 tt byte (omega arith)

display_limit : (byte : ℕ) → (display_in byte).limit ≤ 7
display_limit byte = omega (arith, cut_lt byte 0 3)

-- ---- settings

-- what it is for settings to be legal, field by field
pub record InRange (c : Kept) : Type 0 where
  pub limit : c.display.limit ≤ 7
  pub blink : c.blink ≤ 255
  pub custom : c.custom ≤ 127

pub in_range_lem : (c : Kept) → legal_kept c ≡ true → InRange c
in_range_lem c e =
    let t = (and-eq-true_iff (leb c.display.limit 7 && leb c.blink 255) (leb c.custom 127)).0 e in
    let u = (and-eq-true_iff (leb c.display.limit 7) (leb c.blink 255)).0 t.0 in
    record {
      limit = leb-true c.display.limit 7 u.0;
      blink = leb-true c.blink 255 u.1;
      custom = leb-true c.custom 127 t.1;
    }

pub range_legal : (c : Kept) → InRange c → legal_kept c ≡ true
range_legal c r =
    ap₂ ◌&&◌ (ap₂ ◌&&◌ (le-leb c.display.limit 7 r.limit) (le-leb c.blink 255 r.blink)) (le-leb c.custom 127 r.custom)

-- ---- a chip's frame

module _ (k : ℕ) (c : Kept) (ok : legal_kept c ≡ true) where
  pub chip_frame_is : is_chip k (chip_frame k c) ≡ true
  unfolding is_chip
  chip_frame_is =
      let r = in_range_lem c ok in
      ap₂ ◌&&◌ (eq-eqb k k refl)
      (ap₂ ◌&&◌
      (ap₂ ◌&&◌ (ap₂ ◌&&◌ (eq-eqb (cut (system_byte c.system) 6 2) 0 (system_high c.system)) (ap not (system_bit c.system 2 (lit< tt))))
      (le-leb (display_byte c.display) 0x0F (display_most c.display r.limit)))
      (le-leb c.custom 0x7F r.custom))

  pub chip_frame_back : kept_by (chip_frame k c) ≡ c
  chip_frame_back =
      λ j.
      record {
        system = system_back c.system j;
        display = display_back c.display (in_range_lem c ok).limit j;
        blink = c.blink;
        custom = c.custom;
      }

  pub chip_frame_below : k < 256 → AllBelow 256 (chip_frame k c)
  chip_frame_below h =
      let r = in_range_lem c ok in
      let d = display_most c.display r.limit in
      let b = r.blink in
      let u = r.custom in
      (omega arith, (h, (system_below c.system, (omega arith, (omega arith, (omega arith, tt))))))

-- what it is for bytes to be of a chip's form
record OfChip (k : ℕ) (bytes : List ℕ) : Type 0 where
  count : length bytes ≡ 6
  kind : get_or bytes 0 0 ≡ 0x21
  place : get_or bytes 1 0 ≡ k
  high : cut (get_or bytes 2 0) 6 2 ≡ 0
  middle : bit (get_or bytes 2 0) 2 ≡ false
  display : get_or bytes 3 0 ≤ 0x0F
  custom : get_or bytes 5 0 ≤ 0x7F

of_chip : (k : ℕ) (bytes : List ℕ) → is_chip k bytes ≡ true → OfChip k bytes
unfolding is_chip
of_chip k bytes e =
    let system = get_or bytes 2 0 in
    let display = get_or bytes 3 0 in
    let custom = get_or bytes 5 0 in
    let a = eqb (length bytes) 6 in
    let b = eqb (get_or bytes 0 0) 0x21 in
    let c = eqb (get_or bytes 1 0) k in
    let p = eqb (cut system 6 2) 0 in
    let q = not (bit system 2) in
    let r = leb display 0x0F in
    let s = leb custom 0x7F in
    let all = (and-eq-true_iff (a && b && c) (p && q && r && s)).0 e in
    let abc = (and-eq-true_iff (a && b) c).0 all.0 in
    let ab = (and-eq-true_iff a b).0 abc.0 in
    let pqrs = (and-eq-true_iff (p && q && r) s).0 all.1 in
    let pqr = (and-eq-true_iff (p && q) r).0 pqrs.0 in
    let pq = (and-eq-true_iff p q).0 pqr.0 in
    record {
      count = eqb-true (length bytes) 6 ab.0;
      kind = eqb-true (get_or bytes 0 0) 0x21 ab.1;
      place = eqb-true (get_or bytes 1 0) k abc.1;
      high = eqb-true (cut system 6 2) 0 pq.0;
      middle = not-true (bit system 2) pq.1;
      display = leb-true display 0x0F pqr.1;
      custom = leb-true custom 0x7F pqrs.1;
    }

six_are : (bytes : List ℕ) → length bytes ≡ 6
    → get_or bytes 0 0 ∷ get_or bytes 1 0 ∷ get_or bytes 2 0 ∷ get_or bytes 3 0 ∷ get_or bytes 4 0 ∷ get_or bytes 5 0 ∷ [] ≡ bytes
six_are [] e = absurd (omega arith)
six_are (a ∷ []) e = absurd (omega arith)
six_are (a ∷ b ∷ []) e = absurd (omega arith)
six_are (a ∷ b ∷ c ∷ []) e = absurd (omega arith)
six_are (a ∷ b ∷ c ∷ d ∷ []) e = absurd (omega arith)
six_are (a ∷ b ∷ c ∷ d ∷ f ∷ []) e = absurd (omega arith)
six_are (a ∷ b ∷ c ∷ d ∷ f ∷ g ∷ []) e = refl
six_are (a ∷ b ∷ c ∷ d ∷ f ∷ g ∷ h ∷ more) e = absurd (omega arith)

module _ (k : ℕ) (bytes : List ℕ) (ok : is_chip k bytes ≡ true) where
  pub chip_length : length bytes ≡ 6
  chip_length = (of_chip k bytes ok).count

  pub chip_bytes_back : AllBelow 256 bytes → chip_frame k (kept_by bytes) ≡ bytes
  chip_bytes_back all =
      let f = of_chip k bytes ok in
      let system = system_again (get_or bytes 2 0) (below_at 256 bytes 2 (omega arith) all) f.high f.middle in
      let display = display_again (get_or bytes 3 0) f.display in
      (λ j. sym f.kind j ∷ sym f.place j ∷ system j ∷ display j ∷ get_or bytes 4 0 ∷ get_or bytes 5 0 ∷ []) ∙ six_are bytes f.count

  pub chip_bytes_legal : AllBelow 256 bytes → legal_kept (kept_by bytes) ≡ true
  chip_bytes_legal all =
      let b = below_at 256 bytes 4 (omega arith) all in
      range_legal (kept_by bytes)
      record { limit = display_limit (get_or bytes 3 0); blink = omega arith; custom = (of_chip k bytes ok).custom }

-- ---- the first frame

pub first_frame_is : (n : ℕ) → chip_count n ≡ true → is_first (first_frame n) ≡ true
unfolding is_first
first_frame_is n e = ap₂ ◌&&◌ e (eq-eqb (version_for n) (version_for n) refl)

pub first_frame_below : (n : ℕ) → chip_count n ≡ true → AllBelow 256 (first_frame n)
first_frame_below n e =
    let v = version_known n e in
    let f = (count_within n e).few in
    (omega arith, (omega arith, (omega arith, tt)))

-- what it is for bytes to be of the first form
record OfFirst (bytes : List ℕ) : Type 0 where
  count : length bytes ≡ 3
  kind : get_or bytes 0 0 ≡ 0x20
  chips : chip_count (get_or bytes 2 0) ≡ true
  version : get_or bytes 1 0 ≡ version_for (get_or bytes 2 0)

of_first : (bytes : List ℕ) → is_first bytes ≡ true → OfFirst bytes
unfolding is_first
of_first bytes e =
    let n = get_or bytes 2 0 in
    let a = eqb (length bytes) 3 in
    let b = eqb (get_or bytes 0 0) 0x20 in
    let c = chip_count n in
    let d = eqb (get_or bytes 1 0) (version_for n) in
    let all = (and-eq-true_iff (a && b && c) d).0 e in
    let abc = (and-eq-true_iff (a && b) c).0 all.0 in
    let ab = (and-eq-true_iff a b).0 abc.0 in
    record {
      count = eqb-true (length bytes) 3 ab.0;
      kind = eqb-true (get_or bytes 0 0) 0x20 ab.1;
      chips = abc.1;
      version = eqb-true (get_or bytes 1 0) (version_for n) all.1;
    }

three_are : (bytes : List ℕ) → length bytes ≡ 3 → get_or bytes 0 0 ∷ get_or bytes 1 0 ∷ get_or bytes 2 0 ∷ [] ≡ bytes
three_are [] e = absurd (omega arith)
three_are (a ∷ []) e = absurd (omega arith)
three_are (a ∷ b ∷ []) e = absurd (omega arith)
three_are (a ∷ b ∷ c ∷ []) e = refl
three_are (a ∷ b ∷ c ∷ d ∷ more) e = absurd (omega arith)

module _ (bytes : List ℕ) (ok : is_first bytes ≡ true) where
  pub first_length : length bytes ≡ 3
  first_length = (of_first bytes ok).count

  pub first_count : chip_count (get_or bytes 2 0) ≡ true
  first_count = (of_first bytes ok).chips

  pub first_frame_back : first_frame (get_or bytes 2 0) ≡ bytes
  first_frame_back =
      let f = of_first bytes ok in
      (λ j. sym f.kind j ∷ sym f.version j ∷ get_or bytes 2 0 ∷ []) ∙ three_are bytes f.count
