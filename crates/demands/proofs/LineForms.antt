-- The forms of lines, by what lines are written as: what is taken for a form is of that form, and what is of a form is taken for it.
--     first_view     the first line: 00 01 N, or refused
--     other_view     a line after it: samples, a scan, or refused
-- Assumes nothing.
use mathlib.Core.Path.{◌≡◌, refl, ap, ap₂, sym, subst, ◌∙◌}
use mathlib.Core.Bool.{Bool, ◌&&◌}
use mathlib.Core.Logic.{◌⊎◌, inl, inr}
use mathlib.Core.List.{List, [], ◌∷◌, nil≢cons, head-eq_of_cons-eq, tail-eq_of_cons-eq}
use Prim.Native.Nat.{ℕ, ◌≤◌, ◌<◌}
use native.Mathlib.Omega.{arith}
use lib.Dec.{ltb, eqb}
use lib.ListN.{length}
use Rattle.base.specs.Pick.{pick}
use Rattle.base.specs.Refusals.{Told, IsDone, done, refused}
use Rattle.base.proofs.Lists.{below_more}
use Rattle.base.proofs.Tests.{by_order, by_equality}
use Rattle.chain.specs.Chain.{most, chip_count, checked_from}
use Rattle.base.specs.Below.{AllBelow}
use Rattle.chain.proofs.Laws.{checked_below, below_checked}
use Rattle.lines.specs.Lines.{Line, ended, bytes_in, as_hex}
use Rattle.lines.proofs.Hex.{line_back, line_written}
use Rattle.capture.specs.Frames.{Form, samples, scan, other, first_of, samples_by, samples_form, scan_form, form_of}
use Rattle.demands.specs.Refusals.{NotOneToMost}
use Rattle.demands.specs.Texts.{FirstLine, SamplesLine, ScanLine}
use Rattle.demands.proofs.Conditions.{Tests, passed, failed, neither, leb_tests, ltb_tests, eqb_tests, both_tests, count_tests}

-- ---- the first line

-- what a first line is taken for
pub data FirstView (l : Line) : Told ℕ → Type 0 where
  gives : (n : ℕ) → FirstLine l n → FirstView l (done n)
  wrong : ((n : ℕ) × FirstLine l n → ⊥) → FirstView l (refused 10 0)

pub one_to_most : (n : ℕ) → (NotOneToMost n → ⊥) → n ≤ most
one_to_most n f = by_order n most (λ h. h) (λ h. absurd (f (inr h)))

pub first_bytes : (l : Line) (n : ℕ) → FirstLine l n → bytes_in l ≡ 0x00 ∷ 0x01 ∷ n ∷ []
first_bytes l n y =
    let h = one_to_most n y.0 in
    ap bytes_in y.1 ∙ line_back (0x00 ∷ 0x01 ∷ n ∷ []) (omega arith, (omega arith, (omega arith, tt)))

-- a number that isn't another, or is
pub is_so : (m n : ℕ) → ((m ≡ n → ⊥) → ⊥) → m ≡ n
is_so m n f = by_equality m n (λ e. e) (λ ne. absurd (f ne))

module _ (l : Line) where
  -- bytes too few or too many
  not_three : (bs : List ℕ) → bytes_in l ≡ bs → (length bs ≡ 3 → ⊥) → (n : ℕ) × FirstLine l n → ⊥
  not_three bs e ne y = ne (ap length (sym e ∙ first_bytes l y.0 y.1))

  by_test : (a b m : ℕ) (t : Bool) → bytes_in l ≡ a ∷ b ∷ m ∷ [] → Tests (((a ≡ 0x00 → ⊥) ⊎ (b ≡ 0x01 → ⊥)) ⊎ NotOneToMost m) t
      → FirstView l (pick t (done m) (refused 10 0))
  by_test a b m t e (passed never) =
      let p = is_so a 0x00 (λ ne. never (inl (inl ne))) in
      let q = is_so b 0x01 (λ ne. never (inl (inr ne))) in
      gives m ((λ g. never (inr g)), (line_written l a (b ∷ m ∷ []) e).0 ∙ ap₂ (λ x y. ended (as_hex (x ∷ y ∷ m ∷ []))) p q)
  by_test a b m t e (failed g) = wrong (λ y. away y.0 y.1.0 (sym e ∙ first_bytes l y.0 y.1) g)
    where
      away : (n : ℕ) → (NotOneToMost n → ⊥) → a ∷ b ∷ m ∷ [] ≡ 0x00 ∷ 0x01 ∷ n ∷ [] → ((a ≡ 0x00 → ⊥) ⊎ (b ≡ 0x01 → ⊥)) ⊎ NotOneToMost m → ⊥
      away n f q (inl (inl ne)) = ne (head-eq_of_cons-eq q)
      away n f q (inl (inr ne)) = ne (head-eq_of_cons-eq (tail-eq_of_cons-eq q))
      away n f q (inr y) = f (subst NotOneToMost (head-eq_of_cons-eq (tail-eq_of_cons-eq (tail-eq_of_cons-eq q))) y)

  by_bytes : (bs : List ℕ) → bytes_in l ≡ bs → FirstView l (first_of bs)
  unfolding first_of
  by_bytes [] e = wrong (not_three [] e (λ q. omega arith))
  by_bytes (a ∷ []) e = wrong (not_three (a ∷ []) e (λ q. omega arith))
  by_bytes (a ∷ b ∷ []) e = wrong (not_three (a ∷ b ∷ []) e (λ q. omega arith))
  by_bytes (a ∷ b ∷ m ∷ []) e =
      by_test a b m (eqb a 0x00 && eqb b 0x01 && chip_count m) e (both_tests (both_tests (eqb_tests a 0x00) (eqb_tests b 0x01)) (count_tests m))
  by_bytes (a ∷ b ∷ m ∷ c ∷ more) e = wrong (not_three (a ∷ b ∷ m ∷ c ∷ more) e (λ q. omega arith))

  pub first_view : FirstView l (first_of (bytes_in l))
  first_view = by_bytes (bytes_in l) refl

-- ---- a line after the first

-- what such a line is taken for
pub data OtherView (n : ℕ) (l : Line) : Form → Type 0 where
  as_samples : (ss : List ℕ) → SamplesLine l → OtherView n l (samples ss)
  as_scan : (k : ℕ) (bytes : List ℕ) → ScanLine n l → OtherView n l (scan k bytes)
  as_none : (SamplesLine l ⊎ ScanLine n l → ⊥) → OtherView n l other

module _ (n : ℕ) (few : n ≤ most) (l : Line) where
  samples_bytes : (y : SamplesLine l) → bytes_in l ≡ 0x01 ∷ y.0
  samples_bytes y = ap bytes_in y.4 ∙ line_back (0x01 ∷ y.0) (omega arith, below_more 8 256 y.0 (omega arith) y.3)

  scan_bytes : (y : ScanLine n l) → bytes_in l ≡ 0x02 ∷ y.0 ∷ y.1
  scan_bytes y =
      let h : y.0 < n = y.2 in
      ap bytes_in y.5 ∙ line_back (0x02 ∷ y.0 ∷ y.1) (omega arith, (omega arith, y.4))

  -- no line of samples is one of a scan
  no_form : (bs : List ℕ) → bytes_in l ≡ bs
      → ((ss : List ℕ) → bs ≡ 0x01 ∷ ss → 1 ≤ length ss → length ss ≤ 32 → AllBelow 8 ss → ⊥)
      → ((k : ℕ) (bytes : List ℕ) → bs ≡ 0x02 ∷ k ∷ bytes → k < n → length bytes ≡ 8 → ⊥)
      → SamplesLine l ⊎ ScanLine n l
      → ⊥
  no_form bs e f g (inl y) = f y.0 (sym e ∙ samples_bytes y) y.1 y.2 y.3
  no_form bs e f g (inr y) = g y.0 y.1 (sym e ∙ scan_bytes y) y.2 y.3

  -- bytes that begin as neither
  other_kind : (kind : ℕ) (rest : List ℕ) → bytes_in l ≡ kind ∷ rest → (kind ≡ 0x01 → ⊥) → (kind ≡ 0x02 → ⊥) → OtherView n l other
  other_kind kind rest e p q =
      as_none (no_form (kind ∷ rest) e (λ ss r a b c. p (head-eq_of_cons-eq r)) (λ k bytes r a b. q (head-eq_of_cons-eq r)))

  -- after 01
  module _ (rest : List ℕ) (e : bytes_in l ≡ 0x01 ∷ rest) where
    not_samples : (1 ≤ length rest → length rest ≤ 32 → AllBelow 8 rest → ⊥) → OtherView n l other
    not_samples f =
        as_none
        (no_form (0x01 ∷ rest) e
        (λ ss r a b c.
        let q = tail-eq_of_cons-eq r in
        f (subst (λ x. 1 ≤ length x) (sym q) a) (subst (λ x. length x ≤ 32) (sym q) b) (subst (AllBelow 8) (sym q) c))
        (λ k bytes r a b. omega (arith, head-eq_of_cons-eq r)))

    by_check : (t : Told (Unit {0})) → checked_from 0 rest ≡ t → 1 ≤ length rest → length rest ≤ 32 → OtherView n l (samples_by t rest)
    by_check (done u) q a b = as_samples rest (rest, a, b, checked_below 0 rest q, (line_written l 0x01 rest e).0)
    by_check (refused number place) q a b = not_samples (λ p r c. subst IsDone (sym (below_checked 0 rest c) ∙ q) tt)

    by_length : (t : Bool) → Tests ((length rest < 1) ⊎ (32 < length rest)) t → OtherView n l (pick t (samples_by (checked_from 0 rest) rest) other)
    by_length t (passed never) =
        by_check (checked_from 0 rest) refl (by_order 1 (length rest) (λ h. h) (λ h. absurd (never (inl h))))
        (by_order (length rest) 32 (λ h. h) (λ h. absurd (never (inr h))))
    by_length t (failed g) = not_samples (λ p r c. neither (λ h. omega arith) (λ h. omega arith) g)

  -- after 02
  module _ (k : ℕ) (bytes : List ℕ) (e : bytes_in l ≡ 0x02 ∷ k ∷ bytes) where
    by_chip : (t : Bool) → Tests ((n ≤ k) ⊎ (length bytes ≡ 8 → ⊥)) t → OtherView n l (pick t (scan k bytes) other)
    by_chip t (passed never) =
        let w = line_written l 0x02 (k ∷ bytes) e in
        as_scan k bytes
        (k, bytes, by_order n k (λ h. absurd (never (inl h))) (λ h. h), is_so (length bytes) 8 (λ ne. never (inr ne)), w.1.1.1, w.0)
    by_chip t (failed g) =
        as_none
        (no_form (0x02 ∷ k ∷ bytes) e (λ ss r a b c. omega (arith, head-eq_of_cons-eq r))
        (λ j more r a b.
        let q = tail-eq_of_cons-eq r in
        neither (λ h. omega (arith, head-eq_of_cons-eq q)) (λ ne. ne (ap length (tail-eq_of_cons-eq q) ∙ b)) g))

  by_rest : (rest : List ℕ) → bytes_in l ≡ 0x02 ∷ rest → OtherView n l (scan_form n rest)
  by_rest [] e =
      as_none (no_form (0x02 ∷ []) e (λ ss r a b c. omega (arith, head-eq_of_cons-eq r)) (λ k bytes r a b. nil≢cons (tail-eq_of_cons-eq r)))
  by_rest (k ∷ bytes) e = by_chip k bytes e (ltb k n && eqb (length bytes) 8) (both_tests (ltb_tests k n) (eqb_tests (length bytes) 8))

  by_kind : (kind : ℕ) (rest : List ℕ) → bytes_in l ≡ kind ∷ rest → (s t : Bool) → Tests (kind ≡ 0x01 → ⊥) s → Tests (kind ≡ 0x02 → ⊥) t
      → OtherView n l (pick s (samples_form rest) (pick t (scan_form n rest) other))
  by_kind kind rest e s t (passed never) y =
      by_length rest (e ∙ ap (λ x. x ∷ rest) (is_so kind 0x01 never)) _ (both_tests (leb_tests 1 (length rest)) (leb_tests (length rest) 32))
  by_kind kind rest e s t (failed p) (passed never) = by_rest rest (e ∙ ap (λ x. x ∷ rest) (is_so kind 0x02 never))
  by_kind kind rest e s t (failed p) (failed q) = other_kind kind rest e p q

  by_form : (bs : List ℕ) → bytes_in l ≡ bs → OtherView n l (form_of n bs)
  unfolding form_of
  by_form [] e = as_none (no_form [] e (λ ss r a b c. nil≢cons r) (λ k bytes r a b. nil≢cons r))
  by_form (kind ∷ rest) e = by_kind kind rest e (eqb kind 0x01) (eqb kind 0x02) (eqb_tests kind 0x01) (eqb_tests kind 0x02)

  pub other_view : OtherView n l (form_of n (bytes_in l))
  other_view = by_form (bytes_in l) refl
