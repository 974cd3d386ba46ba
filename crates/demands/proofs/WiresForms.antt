-- The forms of lines of two wires, by what lines are written as: what is taken for a form is of that form, and what is of a form is taken
-- for it.
--     panel_view     the first line: 40 01, code and digits, or refused
--     wires_view     a line after it: samples, or refused
-- Assumes nothing.
use mathlib.Core.Path.{◌≡◌, refl, ap, ap₂, sym, subst, ◌∙◌}
use mathlib.Core.Bool.{Bool, ◌&&◌}
use mathlib.Core.Logic.{◌⊎◌, inl, inr}
use mathlib.Core.List.{List, [], ◌∷◌, nil≢cons, head-eq_of_cons-eq, tail-eq_of_cons-eq}
use Prim.Native.Nat.{ℕ, suc, ◌<◌}
use native.Mathlib.Nat.{le_of_suc-le-suc}
use native.Mathlib.Omega.{arith}
use lib.Dec.{eqb, leb}
use lib.ListN.{length, drop}
use Rattle.base.specs.Below.{AllBelow}
use Rattle.base.specs.Pick.{pick}
use Rattle.base.specs.Refusals.{Told, done, refused}
use Rattle.base.proofs.Lists.{below_more}
use Rattle.base.proofs.Tests.{by_order}
use Rattle.ch450.specs.Entries.{checked_from}
use Rattle.lines.specs.Lines.{Line, ended, bytes_in, as_hex}
use Rattle.lines.proofs.Hex.{line_back, line_written}
use Rattle.wires.specs.Frames as F
use Rattle.demands.specs.WiresTexts.{PanelLine, SomePanelLine, WiresLine}
use Rattle.demands.proofs.Conditions.{Tests, passed, failed, same_tests, leb_tests, eqb_tests, both_tests}
use Rattle.demands.proofs.LineForms.{is_so}

-- ---- the first line

-- what a first line is taken for
pub data PanelView (l : Line) : Told F.Begin → Type 0 where
  gives : (b : F.Begin) → PanelLine l b.key b.digits → PanelView l (done b)
  wrong : (SomePanelLine l → ⊥) → PanelView l (refused 10 0)

panel_bytes : (l : Line) (key : ℕ) (digits : List ℕ) → PanelLine l key digits → bytes_in l ≡ 0x40 ∷ 0x01 ∷ key ∷ digits
panel_bytes l key digits y =
    let h = y.0 in
    ap bytes_in y.3 ∙ line_back (0x40 ∷ 0x01 ∷ key ∷ digits) (omega arith, (omega arith, (omega arith, y.2)))

module _ (l : Line) where
  -- bytes too few or too many
  not_nine : (bs : List ℕ) → bytes_in l ≡ bs → (length bs ≡ 9 → ⊥) → SomePanelLine l → ⊥
  not_nine bs e ne y =
      let six = y.2.1 in
      let same = ap length (sym e ∙ panel_bytes l y.0 y.1 y.2) in
      ne (omega arith)

  module _ (a b key : ℕ) (rest : List ℕ) (e : bytes_in l ≡ a ∷ b ∷ key ∷ rest) where
    -- the conditions of such bytes
    abbrev Other : Type 0
    Other = (((length (a ∷ b ∷ key ∷ rest) ≡ 9 → ⊥) ⊎ (a ≡ 0x40 → ⊥)) ⊎ (b ≡ 0x01 → ⊥)) ⊎ (127 < key)

    not_such : Other → SomePanelLine l → ⊥
    not_such g y = go (sym e ∙ panel_bytes l y.0 y.1 y.2) g
      where
        go : a ∷ b ∷ key ∷ rest ≡ 0x40 ∷ 0x01 ∷ y.0 ∷ y.1 → Other → ⊥
        go q (inl (inl (inl ne))) = not_nine (a ∷ b ∷ key ∷ rest) e ne y
        go q (inl (inl (inr ne))) = ne (head-eq_of_cons-eq q)
        go q (inl (inr ne)) = ne (head-eq_of_cons-eq (tail-eq_of_cons-eq q))
        go q (inr h) = let few = y.2.0 in let same = head-eq_of_cons-eq (tail-eq_of_cons-eq (tail-eq_of_cons-eq q)) in omega arith

    by_test : (t : Bool) → Tests Other t → PanelView l (pick t (done (record { key = key; digits = rest })) (refused 10 0))
    by_test t (passed never) =
        let nine = is_so (length (a ∷ b ∷ key ∷ rest)) 9 (λ ne. never (inl (inl (inl ne)))) in
        let p = is_so a 0x40 (λ ne. never (inl (inl (inr ne)))) in
        let q = is_so b 0x01 (λ ne. never (inl (inr ne))) in
        let w = line_written l a (b ∷ key ∷ rest) e in
        gives (record { key = key; digits = rest }) (
          by_order key 127 (λ h. h) (λ h. absurd (never (inr h))),
          omega arith,
          w.1.1.1.1,
          w.0 ∙ ap₂ (λ x y. ended (as_hex (x ∷ y ∷ key ∷ rest))) p q,
        )
    by_test t (failed g) = wrong (not_such g)

  by_bytes : (bs : List ℕ) → bytes_in l ≡ bs → PanelView l (F.first_of bs)
  unfolding F.first_of
  by_bytes [] e = wrong (not_nine [] e (λ q. omega arith))
  by_bytes (a ∷ []) e = wrong (not_nine (a ∷ []) e (λ q. omega arith))
  by_bytes (a ∷ b ∷ []) e = wrong (not_nine (a ∷ b ∷ []) e (λ q. omega arith))
  by_bytes (a ∷ b ∷ key ∷ rest) e =
      by_test a b key rest e (eqb (length (a ∷ b ∷ key ∷ rest)) 9 && eqb a 0x40 && eqb b 0x01 && leb key 127)
      (both_tests (both_tests (both_tests (eqb_tests (length (a ∷ b ∷ key ∷ rest)) 9) (eqb_tests a 0x40)) (eqb_tests b 0x01)) (leb_tests key 127))

  pub panel_view : PanelView l (F.first_of (bytes_in l))
  panel_view = by_bytes (bytes_in l) refl

-- ---- a line after the first

-- what such a line is taken for: its bytes after the first are the samples
pub data WiresView (l : Line) : F.Form → Type 0 where
  as_samples : WiresLine l → WiresView l (F.samples (drop 1 (bytes_in l)))
  as_none : (WiresLine l → ⊥) → WiresView l F.other

-- one sample more
more_tests : (place s : ℕ) (ss : List ℕ) {t : Bool} → Tests (3 < s) t → Tests (AllBelow 4 ss → ⊥) (F.passed (checked_from (suc place) ss))
    → Tests (AllBelow 4 (s ∷ ss) → ⊥) (F.passed (pick t (checked_from (suc place) ss) (refused 1 place)))
more_tests place s ss (passed n) rest =
    same_tests (λ f a. f a.1) (λ f a. f (by_order s 3 (λ h. omega arith) (λ h. absurd (n h)), a)) rest
more_tests place s ss (failed h) rest = failed (λ a. let l : s < 4 = a.0 in omega arith)

-- samples all of which are below 4
below_tests : (place : ℕ) (ss : List ℕ) → Tests (AllBelow 4 ss → ⊥) (F.passed (checked_from place ss))
unfolding checked_from
below_tests place [] = passed (λ f. f tt)
below_tests place (s ∷ ss) = more_tests place s ss (leb_tests s 3) (below_tests (suc place) ss)

-- and are so where they aren't not
below_stable : (ss : List ℕ) → ((AllBelow 4 ss → ⊥) → ⊥) → AllBelow 4 ss
below_stable [] f = tt
below_stable (s ∷ ss) f = (
  by_order s 3 (λ h. omega arith) (λ h. absurd (f (λ a. let l : s < 4 = a.0 in omega arith))),
  below_stable ss (λ g. f (λ a. g a.1)),
)

module _ (l : Line) where
  wires_bytes : (y : WiresLine l) → bytes_in l ≡ 0x41 ∷ y.0
  wires_bytes y = ap bytes_in y.4 ∙ line_back (0x41 ∷ y.0) (omega arith, below_more 4 256 y.0 (omega arith) y.3)

  module _ (kind : ℕ) (rest : List ℕ) (e : bytes_in l ≡ kind ∷ rest) where
    -- the conditions of such bytes
    abbrev NoSamples : Type 0
    NoSamples = (((length (kind ∷ rest) < 2) ⊎ (33 < length (kind ∷ rest))) ⊎ (kind ≡ 0x41 → ⊥)) ⊎ (AllBelow 4 rest → ⊥)

    no_samples : NoSamples → WiresLine l → ⊥
    no_samples g y = go (sym e ∙ wires_bytes y) g
      where
        go : kind ∷ rest ≡ 0x41 ∷ y.0 → NoSamples → ⊥
        go q (inl (inl (inl h))) = let few = y.1 in let same = ap length q in omega arith
        go q (inl (inl (inr h))) = let few = y.2 in let same = ap length q in omega arith
        go q (inl (inr ne)) = ne (head-eq_of_cons-eq q)
        go q (inr f) = f (subst (AllBelow 4) (sym (tail-eq_of_cons-eq q)) y.3)

    by_kind : (t : Bool) → Tests NoSamples t → WiresView l (pick t (F.samples (drop 1 (bytes_in l))) F.other)
    by_kind t (passed never) =
        let k = is_so kind 0x41 (λ ne. never (inl (inr ne))) in
        as_samples (
          rest,
          by_order 2 (length (kind ∷ rest)) le_of_suc-le-suc (λ h. absurd (never (inl (inl (inl h))))),
          by_order (length (kind ∷ rest)) 33 le_of_suc-le-suc (λ h. absurd (never (inl (inl (inr h))))),
          below_stable rest (λ f. never (inr f)),
          (line_written l kind rest e).0 ∙ ap (λ x. ended (as_hex (x ∷ rest))) k,
        )
    by_kind t (failed g) = as_none (no_samples g)

  by_form : (bs : List ℕ) → bytes_in l ≡ bs → WiresView l (pick (F.is_samples bs) (F.samples (drop 1 (bytes_in l))) F.other)
  unfolding F.is_samples
  by_form [] e = as_none (λ y. nil≢cons (sym e ∙ wires_bytes y))
  by_form (kind ∷ rest) e =
      by_kind kind rest e
      (leb 2 (length (kind ∷ rest)) && leb (length (kind ∷ rest)) 33 && eqb kind 0x41 && F.passed (checked_from 0 rest))
      (both_tests (both_tests (both_tests (leb_tests 2 (length (kind ∷ rest))) (leb_tests (length (kind ∷ rest)) 33)) (eqb_tests kind 0x41))
      (below_tests 0 rest))

  pub wires_view : WiresView l (F.form_of (bytes_in l))
  wires_view = by_form (bytes_in l) refl
