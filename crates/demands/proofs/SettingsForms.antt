-- The forms of a settings text and the fields of settings, by what lines are written as: each test is failed exactly when its condition
-- is given.
--     field_tests, fields_tests          9, of a chip's settings and of those below N
--     begins_version, version_begins     the version that a text begins with is the one that is read
--     first_view, first_same             the first line; it gives one N
--     chip_line_tests                    a chip's line
-- Assumes nothing.
use mathlib.Core.Path.{◌≡◌, refl, ap, sym, ◌∙◌}
use mathlib.Core.Bool.{Bool, true, false}
use mathlib.Core.Logic.{◌⊎◌, inl, inr}
use mathlib.Core.List.{List, [], ◌∷◌, ◌++◌}
use Prim.Native.Nat.{ℕ, zero, suc, ◌<◌, suc-le-suc}
use native.Mathlib.Nat.{le_of_suc-le-suc, zero-lt-suc, not-suc-le-zero}
use native.Mathlib.Omega.{arith}
use lib.Dec.{eqb}
use lib.ListN.{length, get_or, take, drop, length-take, take-append-drop}
use lib.Seq.{take_at}
use Rattle.base.specs.Below.{every}
use Rattle.base.specs.Pick.{pick}
use Rattle.lines.specs.Lines.{Line, ended, bytes_in, as_hex}
use Rattle.lines.proofs.Hex.{line_back, line_written, line_given}
use Rattle.lines.proofs.Puts.{as_hex_length}
use Rattle.settings.specs.declared.Kept.{Kept}
use Rattle.settings.specs.declared.Kiosk.{Kiosk}
use Rattle.settings.specs.Reading.{version_by, version_in, is_first, is_chip, kept_by}
use Rattle.settings.specs.Settings.{no_kept, kept_in, version_for, legal_kept, all_legal, first_frame, chip_frame}
use Rattle.settings.proofs.Bytes.{first_frame_is, first_frame_below, first_frame_back, first_count, chip_frame_is, chip_frame_below, chip_length, chip_bytes_back, chip_bytes_legal}
use Rattle.demands.specs.SettingsTables.{KeptOut, limit, blink, custom, SomeKeptOut, BeginsWithVersion, FirstSettingsLine, SomeFirstLine, ChipLine}
use Rattle.demands.proofs.Conditions.{Tests, passed, failed, same_tests, leb_tests, eqb_tests, both_tests, count_tests}
use Rattle.demands.proofs.LineForms.{is_so}

-- what a test says, and what says of a test
not_given : {G : Type 0} {b : Bool} → Tests G b → b ≡ true → G → ⊥
not_given (passed n) e g = n g
not_given (failed y) e g = let z : ◌≡◌ {A = Bool} false true = e in different z
  where
    different : false ≡ true → ⊥
    different q = let w : ◌≡◌ {A = ℕ} 0 1 = cc in omega arith

so_passed : {G : Type 0} {b : Bool} → Tests G b → (G → ⊥) → b ≡ true
so_passed (passed n) f = refl
so_passed (failed y) f = absurd (f y)

-- ---- 9

-- the tests of fields, one after another
to_field : (c : Kept) → ((7 < c.display.limit) ⊎ (0xFF < c.blink)) ⊎ (0x7F < c.custom) → KeptOut c
to_field c (inl (inl h)) = limit h
to_field c (inl (inr h)) = blink h
to_field c (inr h) = custom h

from_field : (c : Kept) → KeptOut c → ((7 < c.display.limit) ⊎ (0xFF < c.blink)) ⊎ (0x7F < c.custom)
from_field c (limit h) = inl (inl h)
from_field c (blink h) = inl (inr h)
from_field c (custom h) = inr h

pub field_tests : (c : Kept) → Tests (KeptOut c) (legal_kept c)
field_tests c =
    same_tests (to_field c) (from_field c)
    (both_tests (both_tests (leb_tests c.display.limit 7) (leb_tests c.blink 0xFF)) (leb_tests c.custom 0x7F))

-- of a chip below n
abbrev SomeOut : ℕ → List Kept → Type 0
SomeOut n cs = (k : ℕ) × (k < n) × KeptOut (get_or cs k no_kept)

one_more : (n : ℕ) (c : Kept) (cs : List Kept) → KeptOut c ⊎ SomeOut n cs → SomeOut (suc n) (c ∷ cs)
one_more n c cs (inl y) = (0, zero-lt-suc n, y)
one_more n c cs (inr y) = (suc y.0, suc-le-suc y.1, y.2)

one_less : (n : ℕ) (c : Kept) (cs : List Kept) (k : ℕ) → k < suc n → KeptOut (get_or (c ∷ cs) k no_kept) → KeptOut c ⊎ SomeOut n cs
one_less n c cs zero h y = inl y
one_less n c cs (suc k) h y = inr (k, le_of_suc-le-suc h, y)

all_tests : (n : ℕ) (cs : List Kept) → Tests (SomeOut n cs) (all_legal (take n cs))
unfolding every
all_tests zero cs = passed (λ y. not-suc-le-zero y.1)
all_tests (suc n) [] = passed (λ y. not_given (field_tests no_kept) refl y.2)
all_tests (suc n) (c ∷ cs) =
    same_tests (one_more n c cs) (λ y. one_less n c cs y.0 y.1 y.2) (both_tests (field_tests c) (all_tests n cs))

pub fields_tests : (kiosk : Kiosk) → Tests (SomeKeptOut kiosk) (all_legal (kept_in kiosk))
fields_tests kiosk = all_tests kiosk.n kiosk.chips

-- ---- the version

pub begins_version : (text : List ℕ) (v : ℕ) → v < 256 → BeginsWithVersion text v → version_in text ≡ v
unfolding version_in
begins_version text v h y =
    ap (λ t. version_by (bytes_in (ended (take 4 t)))) y.1
    ∙ ap (λ t. version_by (bytes_in (ended t))) (take_at (as_hex (0x20 ∷ v ∷ [])) y.0 4 (as_hex_length (0x20 ∷ v ∷ [])))
    ∙ ap version_by (line_back (0x20 ∷ v ∷ []) (omega arith, (h, tt)))

-- a text begins with a version
abbrev Begins : List ℕ → ℕ → Type 0
Begins text v = (v < 256) × BeginsWithVersion text v

module _ (text : List ℕ) where
  -- by the bytes of its first four characters
  by_first : (a b : ℕ) → bytes_in (ended (take 4 text)) ≡ a ∷ b ∷ [] → (t : Bool) → Tests (a ≡ 0x20 → ⊥) t → 0 < pick t b 0 → Begins text (pick t b 0)
  by_first a b e t (passed n) h =
      let w = line_written (ended (take 4 text)) a (b ∷ []) e in
      let same = w.0 in
      let four : take 4 text ≡ as_hex (a ∷ b ∷ []) = cc in
      let kind = is_so a 0x20 n in
      (w.1.1.0, (drop 4 text, sym (take-append-drop 4 text) ∙ ap (λ t. t ++ drop 4 text) (four ∙ ap (λ x. as_hex (x ∷ b ∷ [])) kind)))
  by_first a b e t (failed ne) h = absurd (omega arith)

  none_such : (t : Bool) → 0 < pick t 0 0 → ⊥
  none_such true h = omega arith
  none_such false h = omega arith

  by_bytes : (bs : List ℕ) → bytes_in (ended (take 4 text)) ≡ bs → 0 < version_by bs → Begins text (version_by bs)
  by_bytes [] e h = absurd (omega arith)
  by_bytes (a ∷ []) e h = absurd (none_such (eqb a 0x20) h)
  by_bytes (a ∷ b ∷ []) e h = by_first a b e (eqb a 0x20) (eqb_tests a 0x20) h
  by_bytes (a ∷ b ∷ c ∷ more) e h =
      let w = line_written (ended (take 4 text)) a (b ∷ c ∷ more) e in
      let same = w.0 in
      let four : take 4 text ≡ as_hex (a ∷ b ∷ c ∷ more) = cc in
      let many = ap length four ∙ as_hex_length (a ∷ b ∷ c ∷ more) in
      absurd (omega (arith, length-take 4 text))

  pub version_begins : 0 < version_in text → Begins text (version_in text)
  unfolding version_in
  version_begins h = by_bytes (bytes_in (ended (take 4 text))) refl h

-- ---- the first line

pub first_bytes : (l : Line) (n : ℕ) → FirstSettingsLine l n → bytes_in l ≡ first_frame n
first_bytes l n y = ap bytes_in y.1 ∙ line_back (first_frame n) (first_frame_below n (so_passed (count_tests n) y.0))

pub first_same : (l : Line) (n m : ℕ) → FirstSettingsLine l n → FirstSettingsLine l m → n ≡ m
first_same l n m y z = ap (λ bs. get_or bs 2 0) (sym (first_bytes l n y) ∙ first_bytes l m z)

-- what a first line is taken for
pub data FirstView (l : Line) : Bool → Type 0 where
  gives : FirstSettingsLine l (get_or (bytes_in l) 2 0) → FirstView l true
  wrong : (SomeFirstLine l → ⊥) → FirstView l false

-- a test that is true and false
pub never_both : {b : Bool} → b ≡ true → b ≡ false → ⊥
never_both p q = let z : ◌≡◌ {A = ℕ} 0 1 = cc in omega arith

pub first_view : (l : Line) → FirstView l (is_first (bytes_in l))
first_view l = go (is_first (bytes_in l)) refl
  where
    go : (t : Bool) → is_first (bytes_in l) ≡ t → FirstView l t
    go true e =
        let n = get_or (bytes_in l) 2 0 in
        gives (not_given (count_tests n) (first_count (bytes_in l) e), (line_written l 0x20 (version_for n ∷ n ∷ []) (sym (first_frame_back (bytes_in l) e))).0)
    go false e =
        wrong
        (λ y.
        never_both (ap is_first (first_bytes l y.0 y.1) ∙ first_frame_is y.0 (so_passed (count_tests y.0) y.1.0)) e)

-- ---- a chip's line

chip_bytes_lem : (k : ℕ) (l : Line) → k < 256 → (y : ChipLine k l) → bytes_in l ≡ chip_frame k y.0
chip_bytes_lem k l h y = ap bytes_in y.2 ∙ line_back (chip_frame k y.0) (chip_frame_below k y.0 (so_passed (field_tests y.0) y.1) h)

pub chip_line_tests : (k : ℕ) (l : Line) → k < 256 → Tests (ChipLine k l → ⊥) (is_chip k (bytes_in l))
chip_line_tests k l h = go (is_chip k (bytes_in l)) refl
  where
    go : (t : Bool) → is_chip k (bytes_in l) ≡ t → Tests (ChipLine k l → ⊥) t
    go true e =
        let six = chip_length k (bytes_in l) e in
        let own = line_given l (omega arith) in
        let back = chip_bytes_back k (bytes_in l) e own.1 in
        passed (λ f.
        f (
          kept_by (bytes_in l),
          not_given (field_tests (kept_by (bytes_in l))) (chip_bytes_legal k (bytes_in l) e own.1),
          own.0 ∙ ap (λ bs. ended (as_hex bs)) (sym back),
        ))
    go false e =
        failed (λ y.
        never_both (ap (is_chip k) (chip_bytes_lem k l h y) ∙ chip_frame_is k y.0 (so_passed (field_tests y.0) y.1)) e)
