-- A CH450's panel as 14 numbers, each no more than its place can hold; and the round trips of panels and numbers.
--     under            such a number is below a bound that is above its most
--     digit_low        the number of a digit is below 256
--     panel_held       numbers that fit stand for a panel
--     panel_refused    others are refused with 12
--     panel_back       a panel that a run can hold, of six bytes, comes back from its numbers
--     numbers_back     numbers that fit come back from the panel that they stand for
-- Assumes nothing.
use mathlib.Core.Path.{◌≡◌, refl, sym, subst, ◌∙◌}
use mathlib.Core.Bool.{Bool, true, false, ◌&&◌}
use mathlib.Core.List.{List, ◌∷◌}
use Prim.Native.Nat.{ℕ, ◌+◌, ◌^◌, ◌≤◌, ◌<◌}
use native.Mathlib.Nat.{lt_of_lt_of_le, lt_of_le_of_lt, le_of_suc-le-suc}
use lib.Pow.{pow_mono}
use native.Mathlib.Omega.{arith}
use borrow.Author.Tests.{le-leb, leb-true}
use lib.Dec.{T, eqb, leb, ltb, leb→le, ltb→lt, eqb→eq}
use lib.ListN.{length, get_or}
use Rattle.base.specs.Below.{AllBelow}
use Rattle.base.specs.Pick.{pick}
use Rattle.base.specs.Refusals.{done, refused}
use Rattle.base.proofs.Cuts.{bit_value_back}
use Rattle.base.proofs.Picks.{pick_yes, pick_no}
use Rattle.base.proofs.Tests.{and_left, and_right, at_below}
use Rattle.ch450.specs.declared.Panel.{Panel}
use Rattle.ch450.specs.declared.Wires.{Wires}
use Rattle.ch450.specs.Panel.{last_bit, kept_of, valid_transfer, valid_wires, valid}
use Rattle.zhaqsumir.specs.TwoWires.{mosts, fitting, panel_of, panel_in, panel_numbers}
use Rattle.zhaqsumir.proofs.Counts.{all_places}
use Rattle.zhaqsumir.proofs.Fitting
use Rattle.zhaqsumir.proofs.Fitting.{number_bit, bit_most, digit_most}

pub under : (ns : List ℕ) → fitting ns ≡ true → (k : ℕ) {bound : ℕ} → T (ltb k 14) → T (ltb (get_or mosts k 0) bound) → get_or ns k 0 < bound
under ns h k within less = Fitting.under mosts ns 14 h k within less

pub digit_low : (ns : List ℕ) → fitting ns ≡ true → (k : ℕ) → k < 6 → get_or ns (8 + k) 0 < 256
digit_low ns h k l =
    let fits = at_below (Fitting.fits_by mosts ns) 14 (subst T (sym h) tt) (8 + k) (omega arith) in
    let byte = at_below (λ j. ltb (get_or mosts (8 + j) 0) 256) 6 tt k l in
    lt_of_le_of_lt (leb→le (get_or ns (8 + k) 0) (get_or mosts (8 + k) 0) fits) (ltb→lt (get_or mosts (8 + k) 0) 256 byte)

pub panel_held : (ns : List ℕ) → fitting ns ≡ true → panel_in ns ≡ done (panel_of ns)
unfolding panel_in
panel_held ns e = pick_yes _ _ e

pub panel_refused : (ns : List ℕ) → fitting ns ≡ false → panel_in ns ≡ refused 12 0
unfolding panel_in
panel_refused ns e = pick_no _ _ e

-- ---- panels to numbers and back

-- of any rises 19 bits are kept at most
kept_most : (rises : ℕ) → kept_of rises ≤ 19
kept_most rises = go (leb rises 19) refl
  where
    go : (t : Bool) → leb rises 19 ≡ t → pick t rises 19 ≤ 19
    go true e = leb-true rises 19 e
    go false e = omega arith

-- what valid wires hold
record Small (w : Wires) : Type 0 where
  levels : w.levels ≤ 3
  rises : w.rises ≤ 20
  bits : w.bits ≤ 0x7FFFF

transfer_small : (w : Wires) → T (valid_transfer w) → (w.rises ≤ 20) × (w.bits ≤ 0x7FFFF)
unfolding valid_transfer
transfer_small w t =
    let r = leb w.rises 20 in
    let b = ltb w.bits (2 ^ kept_of w.rises) in
    let few = and_left r b (and_left (r && b) (last_bit w.levels w.bits) t) in
    let less = lt_of_lt_of_le (ltb→lt w.bits (2 ^ kept_of w.rises) (and_right r b (and_left (r && b) (last_bit w.levels w.bits) t))) (pow_mono (kept_most w.rises)) in
    (leb→le w.rises 20 few, le_of_suc-le-suc less)

wires_small : (w : Wires) → T (valid_wires w) → Small w
unfolding valid_wires
wires_small w t =
    let low = leb w.levels 3 in
    let rest = pick w.running (valid_transfer w) (eqb w.rises 0 && eqb w.bits 0) in
    let two = go w.running (and_right low rest t) in
    record { levels = leb→le w.levels 3 (and_left low rest t); rises = two.0; bits = two.1 }
  where
    go : (running : Bool) → T (pick running (valid_transfer w) (eqb w.rises 0 && eqb w.bits 0)) → (w.rises ≤ 20) × (w.bits ≤ 0x7FFFF)
    go true t = transfer_small w t
    go false t =
        let no_rise_lem = eqb→eq w.rises 0 (and_left (eqb w.rises 0) (eqb w.bits 0) t) in
        let no_bit = eqb→eq w.bits 0 (and_right (eqb w.rises 0) (eqb w.bits 0) t) in
        (omega arith, omega arith)

module _ (p : Panel) (holds : T (valid p)) (six : length p.digits ≡ 6) (bytes : AllBelow 256 p.digits) where
  numbers_fit : fitting (panel_numbers p) ≡ true
  unfolding valid
  numbers_fit =
      let small = wires_small p.wires (and_left (valid_wires p.wires) (leb p.settings.intens 3) holds) in
      let intens = leb→le p.settings.intens 3 (and_right (valid_wires p.wires) (leb p.settings.intens 3) holds) in
      let digit : (k : ℕ) → leb (get_or p.digits k 0) 255 ≡ true = λ k. digit_most p.digits k bytes in λ i.
      digit 5 i && (digit 4 i && (digit 3 i && (digit 2 i && (digit 1 i && (digit 0 i
      && (bit_most p.settings.disp i && (bit_most p.settings.keyb i && (le-leb p.settings.intens 3 intens i && (bit_most p.settings.sleep i
      && (le-leb p.wires.bits 0x7FFFF small.bits i && (le-leb p.wires.rises 20 small.rises i && (bit_most p.wires.running i && (le-leb p.wires.levels 3 small.levels i && true)))))))))))))

  pub panel_back : panel_in (panel_numbers p) ≡ done p
  panel_back =
      panel_held (panel_numbers p) numbers_fit ∙ (λ i. done (record {
        wires = record { levels = p.wires.levels; running = bit_value_back p.wires.running i; rises = p.wires.rises; bits = p.wires.bits };
        settings = record {
          sleep = bit_value_back p.settings.sleep i;
          intens = p.settings.intens;
          keyb = bit_value_back p.settings.keyb i;
          disp = bit_value_back p.settings.disp i;
        };
        digits = all_places 0 6 p.digits six i;
      }))

-- ---- numbers to panels and back

pub numbers_back : (ns : List ℕ) → length ns ≡ 14 → fitting ns ≡ true → panel_numbers (panel_of ns) ≡ ns
numbers_back ns size fits =
    (λ i.
    get_or ns 0 0 ∷ number_bit (get_or ns 1 0) (under ns fits 1 tt tt) i ∷ get_or ns 2 0 ∷ get_or ns 3 0
    ∷ number_bit (get_or ns 4 0) (under ns fits 4 tt tt) i
    ∷ get_or ns 5 0
    ∷ number_bit (get_or ns 6 0) (under ns fits 6 tt tt) i
    ∷ number_bit (get_or ns 7 0) (under ns fits 7 tt tt) i
    ∷ (panel_of ns).digits)
    ∙ all_places 0 14 ns size
