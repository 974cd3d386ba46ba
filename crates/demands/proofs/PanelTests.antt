-- The tests of the CH450's definitions and C-15's conditions: each test fails exactly when its refusal is given.
--     field_tests        9: a command's field
--     writable_tests     9: a word of a list
--     panel_tests        12: a panel's record
-- Assumes nothing.
use mathlib.Core.Path.{◌≡◌, refl, sym, subst, ◌∙◌}
use mathlib.Core.Bool.{Bool, true, false, not, ◌&&◌, true≢false}
use mathlib.Core.Logic.{◌⊎◌, inl, inr}
use Prim.Native.Nat.{ℕ, ◌+◌, ◌*◌, ◌-◌, ◌/◌, ◌%◌, ◌^◌, ◌≤◌, ◌<◌}
use native.Mathlib.Nat.{le_trans}
use native.Mathlib.Omega.{arith}
use borrow.Author.Tests.{le-leb, lt-leb}
use lib.Dec.{eqb, leb}
use lib.Pow.{pow_mono}
use Rattle.base.specs.Bits.{bit_value}
use Rattle.base.specs.Pick.{pick}
use Rattle.base.proofs.Picks.{pick_yes, pick_no}
use Rattle.base.proofs.Tests.{by_order}
use Rattle.ch450.specs.declared.Command.{Command}
use Rattle.ch450.specs.declared.Command.TheVariants.{Parameters, LoadDigit, ReadKey}
use Rattle.ch450.specs.declared.Panel.{Panel}
use Rattle.ch450.specs.Commands.{legal}
use Rattle.ch450.specs.Edges.{scl, sda}
use Rattle.ch450.specs.Panel.{kept_of, valid, valid_transfer, valid_wires}
use Rattle.ch450.specs.Written.{writable}
use Rattle.demands.specs.TwoWires.{FieldOut, UnheldPanel, levels, intens, rest_rises, rest_bits, rises, bits, wide, last, byte_one, parameters, digit, NotWritable}
use Rattle.demands.proofs.Conditions.{Tests, passed, failed, same_tests, leb_tests, ltb_tests, eqb_tests, neither, both_tests, either_tests}

-- ---- 9

pub field_tests : (c : Command) → Tests (FieldOut c) (legal c)
field_tests (Parameters s) = leb_tests s.intens 3
field_tests (LoadDigit dig byte) = both_tests (leb_tests 2 dig) (leb_tests dig 7)
field_tests ReadKey = passed (λ y. y)

-- a byte 1 that is neither, by its number
abbrev Neither : ℕ → Type 0
Neither b = (b ≡ 0x48 → ⊥) × (((b < 0x64) ⊎ (0x6E < b)) ⊎ (b % 2 ≡ 0 → ⊥))

-- such a byte is no digit's
no_digit : (b dig : ℕ) → 2 ≤ dig → dig ≤ 7 → b ≡ 0x60 + 2 * dig → ((b < 0x64) ⊎ (0x6E < b)) ⊎ (b % 2 ≡ 0 → ⊥) → ⊥
no_digit b dig l h e = neither (neither (λ q. omega arith) (λ q. omega arith)) (λ f. f (omega arith))

-- the digit of a byte 1 that is one's
of_digit : (b : ℕ) → 0x64 ≤ b → b ≤ 0x6E → b % 2 ≡ 0 → (2 ≤ (b - 0x60) / 2) × ((b - 0x60) / 2 ≤ 7) × (b ≡ 0x60 + 2 * ((b - 0x60) / 2))
of_digit b l h e = (omega arith, omega arith, omega arith)

module _ (w : ℕ) where
  to_neither : Neither (byte_one w) → NotWritable w
  to_neither y (parameters e) = y.0 e
  to_neither y (digit dig l h e) = no_digit (byte_one w) dig l h e y.1

  from_neither : NotWritable w → Neither (byte_one w)
  from_neither n = (
    (λ e. n (parameters e)),
    by_order 0x64 (byte_one w)
        (λ l. by_order (byte_one w) 0x6E
        (λ h. inr (λ e. let d = of_digit (byte_one w) l h e in n (digit ((byte_one w - 0x60) / 2) d.0 d.1 d.2))) (λ h. inl (inr h)))
        (λ l. inl (inl l)),
  )

  pub writable_tests : Tests (NotWritable w) (writable w)
  writable_tests =
      same_tests to_neither from_neither
      (either_tests (eqb_tests (byte_one w) 0x48)
      (both_tests (both_tests (leb_tests 0x64 (byte_one w)) (leb_tests (byte_one w) 0x6E)) (eqb_tests (byte_one w % 2) 0)))

-- ---- 12

not_tests : (b : Bool) → Tests (b ≡ true) (not b)
not_tests true = failed refl
not_tests false = passed (λ e. true≢false (sym e))

-- a number that isn't 0
positive : (n : ℕ) → (n ≡ 0 → ⊥) → 0 < n
positive n ne = by_order n 0 (λ h. absurd (ne (omega arith))) (λ h. h)

-- bits that so many rises can't have brought: more than the rises, or than 19
over_kept : (n b : ℕ) → 2 ^ kept_of n ≤ b → (2 ^ n ≤ b) ⊎ (2 ^ 19 ≤ b)
over_kept n b h =
    by_order n 19 (λ l. inl (subst (λ k. 2 ^ k ≤ b) (pick_yes n 19 (le-leb n 19 l)) h))
    (λ l. inr (subst (λ k. 2 ^ k ≤ b) (pick_no n 19 (lt-leb n 19 l)) h))

kept_least : (n : ℕ) → (kept_of n ≤ n) × (kept_of n ≤ 19)
kept_least n =
    by_order n 19
    (λ l. let e : kept_of n ≡ n = pick_yes n 19 (le-leb n 19 l) in (omega arith, omega arith))
    (λ l. let e : kept_of n ≡ 19 = pick_no n 19 (lt-leb n 19 l) in (omega arith, omega arith))

module _ (p : Panel) where
  -- what the wires can't hold, with a transfer and without
  abbrev WiresUnheld : Bool → Type 0
  WiresUnheld true =
      ((20 < p.wires.rises) ⊎ (2 ^ kept_of p.wires.rises ≤ p.wires.bits))
      ⊎ ((scl p.wires.levels ≡ true) × (p.wires.bits % 2 ≡ bit_value (sda p.wires.levels) → ⊥))
  WiresUnheld false = (p.wires.rises ≡ 0 → ⊥) ⊎ (p.wires.bits ≡ 0 → ⊥)

  abbrev Wrong : Bool → Type 0
  Wrong running = ((3 < p.wires.levels) ⊎ WiresUnheld running) ⊎ (3 < p.settings.intens)

  to_unheld : (running : Bool) → p.wires.running ≡ running → Wrong running → UnheldPanel p
  to_unheld running e (inl (inl h)) = levels h
  to_unheld running e (inr h) = intens h
  to_unheld true e (inl (inr (inl (inl h)))) = rises e h
  to_unheld true e (inl (inr (inl (inr h)))) = by_bits (over_kept p.wires.rises p.wires.bits h)
    where
      by_bits : (2 ^ p.wires.rises ≤ p.wires.bits) ⊎ (2 ^ 19 ≤ p.wires.bits) → UnheldPanel p
      by_bits (inl h) = bits e h
      by_bits (inr h) = wide e h
  to_unheld true e (inl (inr (inr y))) = last e y.0 y.1
  to_unheld false e (inl (inr (inl ne))) = rest_rises e (positive p.wires.rises ne)
  to_unheld false e (inl (inr (inr ne))) = rest_bits e (positive p.wires.bits ne)

  from_unheld : (running : Bool) → p.wires.running ≡ running → UnheldPanel p → Wrong running
  from_unheld running e (levels h) = inl (inl h)
  from_unheld running e (intens h) = inr h
  from_unheld true e (rest_rises f h) = absurd (true≢false (sym e ∙ f))
  from_unheld false e (rest_rises f h) = inl (inr (inl (λ q. omega arith)))
  from_unheld true e (rest_bits f h) = absurd (true≢false (sym e ∙ f))
  from_unheld false e (rest_bits f h) = inl (inr (inr (λ q. omega arith)))
  from_unheld true e (rises f h) = inl (inr (inl (inl h)))
  from_unheld false e (rises f h) = absurd (true≢false (sym f ∙ e))
  from_unheld true e (bits f h) = inl (inr (inl (inr (le_trans (pow_mono (kept_least p.wires.rises).0) h))))
  from_unheld false e (bits f h) = absurd (true≢false (sym f ∙ e))
  from_unheld true e (wide f h) = inl (inr (inl (inr (le_trans (pow_mono (kept_least p.wires.rises).1) h))))
  from_unheld false e (wide f h) = absurd (true≢false (sym f ∙ e))
  from_unheld true e (last f q ne) = inl (inr (inr (q, ne)))
  from_unheld false e (last f q ne) = absurd (true≢false (sym f ∙ e))

  wires_tests : (running : Bool) → Tests (WiresUnheld running) (pick running (valid_transfer p.wires) (eqb p.wires.rises 0 && eqb p.wires.bits 0))
  unfolding valid_transfer
  wires_tests true =
      both_tests (both_tests (leb_tests p.wires.rises 20) (ltb_tests p.wires.bits (2 ^ kept_of p.wires.rises)))
      (either_tests (not_tests (scl p.wires.levels)) (eqb_tests (p.wires.bits % 2) (bit_value (sda p.wires.levels))))
  wires_tests false = both_tests (eqb_tests p.wires.rises 0) (eqb_tests p.wires.bits 0)

  pub panel_tests : Tests (UnheldPanel p) (valid p)
  unfolding valid valid_wires
  panel_tests = go p.wires.running refl
    where
      go : (running : Bool) → p.wires.running ≡ running
          → Tests (UnheldPanel p)
          ((leb p.wires.levels 3 && pick running (valid_transfer p.wires) (eqb p.wires.rises 0 && eqb p.wires.bits 0)) && leb p.settings.intens 3)
      go running e =
          same_tests (to_unheld running e) (from_unheld running e)
          (both_tests (both_tests (leb_tests p.wires.levels 3) (wires_tests running)) (leb_tests p.settings.intens 3))
