-- The written samples and the registers: registers and latches alone, no chips, no scans.
--     still, rising      one sample more, without a LOAD rise and with one
--     writes_bits        bits clocked with LOAD high go through the registers, and LOAD doesn't rise
--     writes_row         a row's samples have one LOAD rise, at their end, which finds the row in the registers
--     writes_rows        so do the samples of rows, each LOAD rise finding the next row
-- Assumes nothing.
use mathlib.Core.Path.{◌≡◌, refl, ap, ap₂, sym, subst, ◌∙◌}
use mathlib.Core.Bool.{Bool, true, false, not, ◌&&◌}
use mathlib.Core.List.{List, [], ◌∷◌, ◌++◌, map, append_assoc}
use Prim.Native.Nat.{ℕ, zero, suc, ◌+◌, ◌≤◌, ◌<◌}
use native.Mathlib.Omega.{arith}
use lib.ListN.{length}
use Rattle.base.specs.Bits.{bit_value}
use Rattle.base.proofs.Picks.{pick_no}
use Rattle.chip.specs.Edges.{din, dclk, load, dclk_falls, dclk_rises, load_rises}
use Rattle.chain.proofs.Shift.{push, pushes}
use Rattle.base.specs.Below.{AllBelow}
use Rattle.demands.proofs.RowLaw.{row_bits_below, row_law}
use Rattle.chain.proofs.Clocks.{fall_rise, Held, held_row}
use Rattle.writer.specs.Rows.{row_samples, samples_of, row_bits, clocking}
use Rattle.demands.specs.Events.{rows_after}

-- ---- what samples do that write rows

-- the registers among registers and latches
abbrev pub registers_in : List Held → List ℕ
registers_in hs = map (λ (h : Held). h.register) hs

-- a LOAD rise finds the next row in the registers
abbrev pub AtSample : Bool → List (List ℕ) → List Held → Type 0
AtSample false rows hs = Unit {0}
AtSample true [] hs = ⊥
AtSample true (row ∷ rows) hs = row ≡ registers_in hs

-- each LOAD rise finds the next row in the registers; at the end no row is left, and DCLK and LOAD are high
abbrev pub Writes : ℕ → List Held → List (List ℕ) → List ℕ → Type 0
Writes was hs rows [] = (rows ≡ []) × (dclk was ≡ true) × (load was ≡ true)
Writes was hs rows (s ∷ ss) =
    (s ≤ 7)
    × AtSample (load_rises was s) rows (held_row was s (din s) hs)
    × Writes s (held_row was s (din s) hs) (rows_after (load_rises was s) rows) ss

-- ---- one sample

module _ (was s : ℕ) (hs : List Held) (rows : List (List ℕ)) (ss : List ℕ) (small : s ≤ 7) where
  pub still : load_rises was s ≡ false → Writes s (held_row was s (din s) hs) rows ss → Writes was hs rows (s ∷ ss)
  still e w = (
    small,
    subst (λ b. AtSample b rows (held_row was s (din s) hs)) (sym e) tt,
    subst (λ b. Writes s (held_row was s (din s) hs) (rows_after b rows) ss) (sym e) w,
  )

  pub rising : (row : List ℕ) → load_rises was s ≡ true → row ≡ registers_in (held_row was s (din s) hs)
      → Writes s (held_row was s (din s) hs) rows ss → Writes was hs (row ∷ rows) (s ∷ ss)
  rising row e f w = (
    small,
    subst (λ b. AtSample b (row ∷ rows) (held_row was s (din s) hs)) (sym e) f,
    subst (λ b. Writes s (held_row was s (din s) hs) (rows_after b (row ∷ rows)) ss) (sym e) w,
  )

-- without an edge of DCLK registers and latches stay
unmoved : (was now : ℕ) (d : Bool) (hs : List Held) → dclk_falls was now ≡ false → dclk_rises was now ≡ false → held_row was now d hs ≡ hs
unfolding held_row
unmoved was now d [] f r = refl
unmoved was now d (h ∷ hs) f r = ap₂ ◌∷◌ (pick_no _ _ f ∙ pick_no _ _ r) (unmoved was now h.latch hs f r)

-- ---- bits

-- a bit's two samples: DCLK low and DCLK high, LOAD high, and DIN is the bit
pub record Wires (b : ℕ) : Type 0 where
  pub low : dclk (4 + b) ≡ false
  pub high : dclk (6 + b) ≡ true
  pub load_low : load (4 + b) ≡ true
  pub load_high_lem : load (6 + b) ≡ true
  pub bit : bit_value (din (6 + b)) ≡ b

pub wires : (b : ℕ) → b < 2 → Wires b
wires zero h = record { low = refl; high = refl; load_low = refl; load_high_lem = refl; bit = refl }
wires (suc zero) h = record { low = refl; high = refl; load_low = refl; load_high_lem = refl; bit = refl }
wires (suc (suc b)) h = absurd (omega arith)

pub writes_bits : (bits : List ℕ) (rows : List (List ℕ)) (more : List ℕ) (was : ℕ) (hs : List Held) → AllBelow 2 bits
    → dclk was ≡ true
    → load was ≡ true
    → ((now : ℕ) (gs : List Held) → dclk now ≡ true → load now ≡ true → registers_in gs ≡ pushes bits (registers_in hs) → Writes now gs rows more)
    → Writes was hs rows (clocking 4 bits ++ more)
unfolding clocking pushes
writes_bits [] rows more was hs small d l next = next was hs d l refl
writes_bits (b ∷ bits) rows more was hs small d l next =
    let c : b < 2 = small.0 in
    let w = wires b c in
    still was (4 + b) hs rows ((6 + b) ∷ clocking 4 bits ++ more) (omega arith) (ap₂ (λ x y. not x && y) l w.load_low)
    (still (4 + b) (6 + b) (held_row was (4 + b) (din (4 + b)) hs) rows (clocking 4 bits ++ more) (omega arith)
    (ap₂ (λ x y. not x && y) w.load_low w.load_high_lem)
    (writes_bits bits rows more (6 + b) (held_row (4 + b) (6 + b) (din (6 + b)) (held_row was (4 + b) (din (4 + b)) hs)) small.1
    w.high w.load_high_lem
    (λ now gs p q e.
    next now gs p q
    (e
    ∙ ap (pushes bits)
    (fall_rise was (4 + b) (6 + b) (din (4 + b)) (din (6 + b)) hs (ap₂ (λ x y. x && not y) d w.low)
    (ap₂ (λ x y. x && not y) w.low w.high)
    (ap₂ (λ x y. not x && y) w.low w.high)
    ∙ ap (λ x. push x (registers_in hs)) w.bit)))))

-- ---- rows

pub writes_row : (row : List ℕ) (rows : List (List ℕ)) (more : List ℕ) (was : ℕ) (hs : List Held)
    → dclk was ≡ true
    → load was ≡ true
    → AllBelow 4096 row
    → AllBelow 4096 (registers_in hs)
    → length row ≡ length (registers_in hs)
    → ((gs : List Held) → registers_in gs ≡ row → Writes 7 gs rows more)
    → Writes was hs (row ∷ rows) (row_samples row ++ more)
unfolding row_samples
writes_row row rows more was hs d l below small size next =
    rw append_assoc
    (writes_bits (row_bits row) (row ∷ rows) (3 ∷ 7 ∷ more) was hs (row_bits_below row) d l
    (λ now gs p q e.
    let same = unmoved now 3 true gs (ap (λ x. x && false) p) (ap (λ x. not x && true) p) in
    let found = e ∙ row_law row (registers_in hs) below small size in
    still now 3 gs (row ∷ rows) (7 ∷ more) (omega arith) (ap (λ x. not x && false) q)
    (subst (λ x. Writes 3 x (row ∷ rows) (7 ∷ more)) (sym same)
    (rising 3 7 gs rows more (omega arith) row refl (sym found ∙ ap registers_in (sym (unmoved 3 7 true gs refl refl)))
    (subst (λ x. Writes 7 x rows more) (sym (unmoved 3 7 true gs refl refl)) (next gs found))))))

-- rows of n words below 4096
abbrev pub RowsOf : ℕ → List (List ℕ) → Type 0
RowsOf n [] = Unit {0}
RowsOf n (row ∷ rows) = (length row ≡ n) × AllBelow 4096 row × RowsOf n rows

pub writes_rows : (n : ℕ) (rows : List (List ℕ)) (was : ℕ) (hs : List Held)
    → dclk was ≡ true
    → load was ≡ true
    → RowsOf n rows
    → AllBelow 4096 (registers_in hs)
    → length (registers_in hs) ≡ n
    → Writes was hs rows (samples_of rows)
unfolding samples_of
writes_rows n [] was hs d l each small size = (refl, d, l)
writes_rows n (row ∷ rows) was hs d l each small size =
    writes_row row rows (samples_of rows) was hs d l each.1 small (each.0 ∙ sym size)
    (λ gs e.
    writes_rows n rows 7 gs refl refl each.2 (subst (AllBelow 4096) (sym e) each.1) (ap length e ∙ each.0))
