-- One chip's step where LOAD does not rise, by DCLK's edge.
--     stepped_rise     a DCLK rise alone moves the register
--     fall_more        a DCLK fall alone moves latch and readout, here of one chip more of a row, whatever DIN is
--     row_still        no edge changes nothing in a row of chips
-- Assumes nothing.
use mathlib.Core.Path.{◌≡◌, refl, ap, ap₂, sym, ◌∙◌}
use mathlib.Core.Bool.{Bool, true, false, not, ◌&&◌}
use mathlib.Core.List.{List, [], ◌∷◌, ◌++◌}
use Prim.Native.Nat.{ℕ, zero, suc, ◌+◌, ◌-◌, ◌<◌}
use Rattle.base.specs.Bits.{bit}
use lib.ListN.{length, get_or, set, take, drop}
use Rattle.base.proofs.Picks.{pick_yes, pick_no}
use Rattle.chip.specs.Record.{with_line}
use Rattle.chip.specs.declared.Chip.{Chip}
use Rattle.chip.specs.Commands.{dout}
use Rattle.chip.specs.Edges.{dclk, dclk_rises, dclk_falls, load_rises, shifted, clocked, stepped}
use Rattle.chain.specs.Chain.{stepped_row}
use Rattle.chain.proofs.Rest.{row_more}

-- what rises does not fall
no_fall : (a b : Bool) → (not a && b) ≡ true → (a && not b) ≡ false
no_fall true true e = refl
no_fall true false e = sym e
no_fall false b e = refl

-- a chip with another register, as a DCLK rise leaves it
abbrev pub with_register : ℕ → Chip → Chip
with_register r c =
    with_line (record { register = r; latch = c.line.latch; readout = c.line.readout }) c

-- a chip with another latch and other bits left to read out, as a DCLK fall leaves it
abbrev pub with_latch : Bool → ℕ → Chip → Chip
with_latch b left c =
    with_line (record { register = c.line.register; latch = b; readout = record { code = c.line.readout.code; left = left } }) c

module _ (was now : ℕ) (d : Bool) (c : Chip) (still : load_rises was now ≡ false) where
  pub stepped_rise : (r : ℕ) → r ≡ shifted c.line.register d → dclk_rises was now ≡ true → with_register r c ≡ stepped was now d c
  unfolding stepped clocked
  stepped_rise r e up =
      ap (λ x. with_register x c) e
      ∙ sym (pick_no _ _ still ∙ ap (λ l. with_line l c) (pick_no _ _ (no_fall (dclk was) (dclk now) up) ∙ pick_yes _ _ up))

  stepped_fall : (b : Bool) (left : ℕ) → b ≡ bit c.line.register 0 → left ≡ c.line.readout.left - 1 → dclk_falls was now ≡ true
      → with_latch b left c ≡ stepped was now d c
  unfolding stepped clocked
  stepped_fall b left e f down =
      ap₂ (λ x y. with_latch x y c) e f ∙ sym (pick_no _ _ still ∙ ap (λ l. with_line l c) (pick_yes _ _ down))

  stepped_still : dclk_rises was now ≡ false → dclk_falls was now ≡ false → stepped was now d c ≡ c
  unfolding stepped clocked
  stepped_still up down = pick_no _ _ still ∙ ap (λ l. with_line l c) (pick_no _ _ down ∙ pick_no _ _ up)

-- a DCLK fall takes nothing from DIN
row_any : (n was now : ℕ) (b b' : Bool) (cs : List Chip) → load_rises was now ≡ false → dclk_falls was now ≡ true
    → stepped_row n was now b cs ≡ stepped_row n was now b' cs
unfolding stepped_row
row_any zero was now b b' cs still down = refl
row_any (suc n) was now b b' [] still down = refl
row_any (suc n) was now b b' (c ∷ cs) still down =
    ap (λ x. x ∷ stepped_row n was now (dout c) cs)
    (sym (stepped_fall was now b c still (bit c.line.register 0) (c.line.readout.left - 1) refl refl down)
    ∙ stepped_fall was now b' c still (bit c.line.register 0) (c.line.readout.left - 1) refl refl down)

-- one chip more at a DCLK fall, whatever DIN is
pub fall_more : (n k was now : ℕ) (b : Bool) (cs : List Chip) (c : Chip) (latch : Bool) (left : ℕ) → load_rises was now ≡ false → dclk_falls was now ≡ true
    → k < n
    → k < length cs
    → latch ≡ bit (get_or cs k c).line.register 0
    → left ≡ (get_or cs k c).line.readout.left - 1
    → take (k + 1) (set cs k (with_latch latch left (get_or cs k c))) ++ stepped_row (n - (k + 1)) was now b (drop (k + 1) (set cs k (with_latch latch left (get_or cs k c))))
    ≡ take k cs ++ stepped_row (n - k) was now b (drop k cs)
fall_more n k was now b cs c latch left still down more below e f =
    let new = with_latch latch left (get_or cs k c) in
    ap (λ r. take (k + 1) (set cs k new) ++ r) (row_any (n - (k + 1)) was now b (dout (get_or cs k c)) (drop (k + 1) (set cs k new)) still down)
    ∙ row_more n k was now b (dout (get_or cs k c)) cs c new more below refl (stepped_fall was now b (get_or cs k c) still latch left e f down)

pub row_still : (n was now : ℕ) (d : Bool) (cs : List Chip) → load_rises was now ≡ false → dclk_rises was now ≡ false → dclk_falls was now ≡ false
    → stepped_row n was now d cs ≡ cs
unfolding stepped_row
row_still zero was now d cs still up down = refl
row_still (suc n) was now d [] still up down = refl
row_still (suc n) was now d (c ∷ cs) still up down =
    ap₂ ◌∷◌ (stepped_still was now d c still up down) (row_still n was now (dout c) cs still up down)
