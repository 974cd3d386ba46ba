-- The frames of a text, seen from the tests of the code that reads them.
--     frame_byte                                             a byte of a frame's array
--     version_short, version_other, version_so               the version, by the first four characters
--     first_size, chip_size                                  other numbers of bytes are no first line, and no chip's
--     first_few                                              no more chips than there can be
--     chip_long, first_long, chip_six                        more bytes than a frame holds are no frame of settings; a chip's are six
-- Assumes nothing.
use mathlib.Core.Path.{◌≡◌, refl, ap, sym, subst, ◌∙◌}
use mathlib.Core.Bool.{Bool, true, false, ◌&&◌}
use mathlib.Core.List.{List, [], ◌∷◌, ◌++◌}
use Prim.Native.Nat.{ℕ, zero, suc, ◌%◌, ◌≤◌, ◌<◌}
use native.Mathlib.Omega.{arith}
use borrow.Author.Tests.{le-leb, eq-eqb, ne_eqb, eqb-true, leb-true}
use lib.Dec.{T, eqb, leb}
use lib.ListN.{length, get_or, drop, take, replicate, length-take, drop_of_length-le}
use Rattle.base.specs.Lent.{laid}
use Rattle.base.specs.Pick.{pick}
use Rattle.base.proofs.Picks.{pick_yes, pick_no, pick_cases}
use Rattle.base.proofs.Tests.{is_true, and_left, and_right}
use Rattle.chain.specs.Chain.{most, chip_count}
use Rattle.lines.specs.declared.Frame.{Frame}
use Rattle.lines.specs.Answers.{held_in, frame_for}
use Rattle.lines.specs.Lines.{ended, bytes_in, all_hex}
use Rattle.lines.proofs.Lines.{bytes_half}
use Rattle.settings.specs.Reading.{version_by, version_in, is_first, in_fields, is_chip}
use Rattle.settings.specs.Settings.{version_for}

-- ---- the version

abbrev none : ℕ
none = 0

abbrev zeros : ℕ → List ℕ
zeros m = replicate m 0

zero_at : (m j : ℕ) → get_or (zeros m) j 0 ≡ none
zero_at zero j = refl
zero_at (suc m) zero = refl
zero_at (suc m) (suc j) = zero_at m j

none_left : (n : ℕ) → drop n (zeros 0) ≡ zeros 0
none_left n = let h : length (zeros 0) ≤ n = omega arith in drop_of_length-le (zeros 0) h

laid_byte : (bytes : List ℕ) (m j : ℕ) → get_or (laid bytes (zeros m)) j 0 ≡ get_or bytes j 0
laid_byte [] m j = zero_at m j
laid_byte (b ∷ bytes) zero zero = refl
laid_byte (b ∷ bytes) zero (suc j) =
    ap (λ rest. get_or (bytes ++ rest) j 0) (none_left (suc (length bytes)) ∙ sym (none_left (length bytes))) ∙ laid_byte bytes zero j
laid_byte (b ∷ bytes) (suc m) zero = refl
laid_byte (b ∷ bytes) (suc m) (suc j) = laid_byte bytes m j

pub frame_byte : (bytes : List ℕ) {f : Frame} → f ≡ frame_for bytes → (j : ℕ) → get_or f.bytes j 0 ≡ get_or bytes j 0
frame_byte bytes e j = ap (λ (f : Frame). get_or f.bytes j 0) e ∙ laid_byte bytes 33 j

zero_both : (b : Bool) → pick b none none ≡ none
zero_both true = refl
zero_both false = refl

-- fewer than two bytes give no version
few_none : (bytes : List ℕ) → length bytes ≤ 1 → version_by bytes ≡ 0
few_none [] h = refl
few_none (a ∷ []) h = zero_both (eqb a 0x20)
few_none (a ∷ b ∷ bytes) h = absurd (omega arith)

module _ (text : List ℕ) where
  short_bytes : length text < 4 → length (bytes_in (ended (take 4 text))) ≤ 1
  short_bytes h =
      pick_cases (λ bytes. length bytes ≤ 1) (all_hex (take 4 text) && eqb (length (take 4 text) % 2) 0)
      (λ _. omega (arith, bytes_half (take 4 text), length-take 4 text)) (λ _. omega arith)

  pub version_short : length text < 4 → version_in text ≡ 0
  unfolding version_in
  version_short h = few_none (bytes_in (ended (take 4 text))) (short_bytes h)

  held_four : held_in (take 4 text) ≡ bytes_in (ended (take 4 text))
  held_four = pick_yes _ _ (le-leb (length (take 4 text)) 66 (omega (arith, length-take 4 text)))

  module _ (f : Frame) (reads : f ≡ frame_for (held_in (take 4 text))) where
    byte_is : (j : ℕ) → get_or (bytes_in (ended (take 4 text))) j 0 ≡ get_or f.bytes j 0
    byte_is j = ap (λ bytes. get_or bytes j 0) (sym held_four) ∙ sym (frame_byte (held_in (take 4 text)) reads j)

    pub version_other : (get_or f.bytes 0 0 ≡ 0x20 → ⊥) → version_in text ≡ 0
    unfolding version_in
    version_other ne = pick_no _ _ (ne_eqb _ 0x20 (λ e. ne (sym (byte_is 0) ∙ e)))

    pub version_so : get_or f.bytes 0 0 ≡ 0x20 → version_in text ≡ get_or f.bytes 1 0
    unfolding version_in
    version_so e = pick_yes _ _ (eq-eqb _ 0x20 (byte_is 0 ∙ e)) ∙ byte_is 1

-- ---- the first line

module _ (bytes : List ℕ) where
  pub first_size : (length bytes ≡ 3 → ⊥) → is_first bytes ≡ false
  unfolding is_first
  first_size ne = simp (ne_eqb (length bytes) 3 ne)

  pub first_few : is_first bytes ≡ true → get_or bytes 2 0 ≤ most
  unfolding is_first
  first_few e =
      let n = get_or bytes 2 0 in
      let size = eqb (length bytes) 3 in
      let kind = eqb (get_or bytes 0 0) 0x20 in
      let t : T (size && kind && chip_count n && eqb (get_or bytes 1 0) (version_for n)) = subst T (sym e) tt in
      leb-true n most (is_true (leb n most) (and_right (leb 1 n) (leb n most) (and_right (size && kind) (chip_count n) (and_left (size && kind && chip_count n) _ t))))

-- ---- a chip's line

module _ (k : ℕ) (bytes : List ℕ) where
  pub chip_size : (length bytes ≡ 6 → ⊥) → is_chip k bytes ≡ false
  unfolding is_chip
  chip_size ne = simp (ne_eqb (length bytes) 6 ne)

  pub chip_long : 33 < length bytes → is_chip k bytes ≡ is_chip k []
  unfolding is_chip
  chip_long h = chip_size (λ e. absurd (omega arith))

  pub chip_six : is_chip k bytes ≡ true → length bytes ≡ 6
  unfolding is_chip
  chip_six e =
      let size = eqb (length bytes) 6 in
      let kind = eqb (get_or bytes 0 0) 0x21 in
      let place = eqb (get_or bytes 1 0) k in
      let t : T (size && kind && place && in_fields (get_or bytes 2 0) (get_or bytes 3 0) (get_or bytes 5 0)) = subst T (sym e) tt in
      eqb-true (length bytes) 6 (is_true size (and_left size kind (and_left (size && kind) place (and_left (size && kind && place) _ t))))

pub first_long : (bytes : List ℕ) → 33 < length bytes → is_first bytes ≡ is_first []
unfolding is_first
first_long bytes h = first_size bytes (λ e. absurd (omega arith))
