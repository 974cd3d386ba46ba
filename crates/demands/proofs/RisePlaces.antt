-- Where LOAD rises stand in written samples.
--     rises_at        the rises of a list, by their places
--     row_rises       a row's samples have one, at their end
--     rises_place     in written samples a LOAD rise stands at p exactly where p + 1 is a multiple of a row's width
-- Assumes nothing.
use mathlib.Core.Path.{◌≡◌, refl, ap, ap₂, sym, subst, ◌∙◌}
use mathlib.Core.Bool.{Bool, true, false, not, ◌&&◌, false≢true}
use mathlib.Core.Logic.{◌↔◌}
use mathlib.Core.List.{List, [], ◌∷◌, ◌++◌, append_assoc}
use Prim.Native.Nat.{ℕ, zero, suc, ◌+◌, ◌-◌, ◌*◌, ◌%◌, ◌<◌}
use native.Mathlib.Nat.{not-suc-le-zero, le_of_suc-le-suc, mod-eq_of_lt, mod_self, add-mod_left}
use native.Mathlib.Omega.{arith}
use lib.ListN.{length, get_or, replicate, length-append, length-replicate, get_or-replicate, get_or-append}
use lib.Seq.{get_or-append-add}
use Rattle.base.proofs.Tests.{by_order}
use Rattle.chip.specs.Edges.{load, load_rises}
use Rattle.base.specs.Below.{AllBelow}
use Rattle.demands.proofs.RowLaw.{row_bits_below}
use Rattle.writer.specs.Rows.{row_samples, samples_of, width, row_bits, clocking}
use Rattle.writer.proofs.Filling.{row_samples_length}
use Rattle.demands.specs.Whole.{RisesAt}
use Rattle.demands.proofs.Writes.{wires, RowsOf}

-- at each sample whether LOAD rises
rises : ℕ → List ℕ → List Bool
rises was [] = []
rises was (s ∷ ss) = load_rises was s ∷ rises s ss

rises_at : (was : ℕ) (ss : List ℕ) (p : ℕ) → p < length ss → get_or (rises was ss) p false ≡ load_rises (get_or (was ∷ ss) p 0) (get_or ss p 0)
unfolding rises
rises_at was [] p h = absurd (not-suc-le-zero h)
rises_at was (s ∷ ss) zero h = refl
rises_at was (s ∷ ss) (suc p) h = rises_at s ss p (le_of_suc-le-suc h)

-- ---- one row

row_rises : (bits more : List ℕ) (was : ℕ) → AllBelow 2 bits → load was ≡ true
    → rises was (clocking 4 bits ++ 3 ∷ 7 ∷ more) ≡ replicate (length (clocking 4 bits)) false ++ false ∷ true ∷ rises 7 more
unfolding clocking rises
row_rises [] more was small high = ap (λ x. (not x && false) ∷ true ∷ rises 7 more) high
row_rises (b ∷ bits) more was small high =
    let w = wires b small.0 in
    ap₂ (λ x y. (not x && load (4 + b)) ∷ (not y && load (6 + b)) ∷ rises (6 + b) (clocking 4 bits ++ 3 ∷ 7 ∷ more)) high w.load_low
    ∙ ap (λ rest. false ∷ false ∷ rest) (row_rises bits more (6 + b) small.1 w.load_high_lem)

-- so many samples without a rise, one with it, and then others
falls_first : (m p : ℕ) (rest : List Bool) → p < m → get_or (replicate m false ++ rest) p false ≡ false
falls_first m p rest h =
    get_or-append (replicate m false) rest false p (subst (λ x. p < x) (sym (length-replicate m false)) h) ∙ get_or-replicate m p false false h

then_next : (m q : ℕ) (rest : List Bool) → get_or (replicate m false ++ rest) (m + q) false ≡ get_or rest q false
then_next m q rest =
    ap (λ x. get_or (replicate m false ++ rest) (x + q) false) (sym (length-replicate m false)) ∙ get_or-append-add (replicate m false) rest q false

-- ---- rows

-- a test that fails on the one side, and a remainder that isn't 0 on the other
neither : (b : Bool) (x w : ℕ) → b ≡ false → 0 < x → x < w → (b ≡ true) ↔ (x % w ≡ 0)
neither b x w e low high = (
  (λ t. absurd (false≢true (sym e ∙ t))),
  (λ z. let same = mod-eq_of_lt high in absurd (omega arith)),
)

module _ (n : ℕ) where
  periodic : (rows : List (List ℕ)) (was p : ℕ) → load was ≡ true → RowsOf n rows → p < length (samples_of rows)
      → (get_or (rises was (samples_of rows)) p false ≡ true) ↔ ((p + 1) % width n ≡ 0)
  unfolding samples_of row_samples
  periodic [] was p high fit h = absurd (not-suc-le-zero h)
  periodic (row ∷ rows) was p high fit h =
      subst (λ xs. (get_or xs p false ≡ true) ↔ ((p + 1) % width n ≡ 0)) (sym split)
      (by_order (suc p) m (λ l. neither _ (p + 1) (width n) (falls_first m p (false ∷ true ∷ later) l) (omega arith) (omega (arith, size)))
      (λ l. after_bits (λ q. periodic rows 7 q refl fit.2) (p - m) (omega arith)))
    where
      m : ℕ
      m = length (clocking 4 (row_bits row))

      later : List Bool
      later = rises 7 (samples_of rows)

      whole : samples_of (row ∷ rows) ≡ clocking 4 (row_bits row) ++ 3 ∷ 7 ∷ samples_of rows
      whole = append_assoc (clocking 4 (row_bits row)) (3 ∷ 7 ∷ []) (samples_of rows)

      split : rises was (samples_of (row ∷ rows)) ≡ replicate m false ++ false ∷ true ∷ later
      split = ap (rises was) whole ∙ row_rises (row_bits row) (samples_of rows) was (row_bits_below row) high

      size : m + 2 ≡ width n
      size = sym (length-append (clocking 4 (row_bits row)) (3 ∷ 7 ∷ [])) ∙ row_samples_length row ∙ ap (λ k. 24 * k + 2) fit.0

      room : m + 2 + length (samples_of rows) ≡ length (samples_of (row ∷ rows))
      room =
          ap (λ k. k + length (samples_of rows)) (sym (length-append (clocking 4 (row_bits row)) (3 ∷ 7 ∷ [])))
          ∙ sym (length-append (row_samples row) (samples_of rows))

      -- the two samples that end the row, and the rows after it
      after_bits : ((q : ℕ) → q < length (samples_of rows) → (get_or later q false ≡ true) ↔ ((q + 1) % width n ≡ 0))
          → (q : ℕ) → p ≡ m + q → (get_or (replicate m false ++ false ∷ true ∷ later) p false ≡ true) ↔ ((p + 1) % width n ≡ 0)
      after_bits rest zero e =
          neither _ (p + 1) (width n) (ap (λ x. get_or (replicate m false ++ false ∷ true ∷ later) x false) e ∙ then_next m 0 (false ∷ true ∷ later)) (omega arith)
          (omega (arith, size))
      after_bits rest (suc zero) e = (
        (λ t. let same : p + 1 ≡ width n = omega (arith, size) in ap (λ x. x % width n) same ∙ mod_self (width n)),
        (λ z. ap (λ x. get_or (replicate m false ++ false ∷ true ∷ later) x false) e ∙ then_next m 1 (false ∷ true ∷ later)),
      )
      after_bits rest (suc (suc q)) e =
          let more = rest q (omega (arith, room)) in
          let here = ap (λ x. get_or (replicate m false ++ false ∷ true ∷ later) x false) e ∙ then_next m (suc (suc q)) (false ∷ true ∷ later) in
          let place : p + 1 ≡ width n + (q + 1) = omega (arith, size) in
          let turn = ap (λ x. x % width n) place ∙ add-mod_left (width n) (q + 1) in (
            (λ t. turn ∙ more.0 (sym here ∙ t)),
            (λ z. here ∙ more.1 (sym turn ∙ z)),
          )

pub rises_place : (n : ℕ) (rows : List (List ℕ)) (was p : ℕ) → load was ≡ true → RowsOf n rows → p < length (samples_of rows)
    → RisesAt was (samples_of rows) p ↔ ((p + 1) % width n ≡ 0)
rises_place n rows was p high fit h =
    let same = rises_at was (samples_of rows) p h in
    let y = periodic n rows was p high fit h in
    ((λ t. y.0 (same ∙ t)), (λ z. sym same ∙ y.1 z))
