-- Samples whose DCLK and LOAD repeat may be left out.
--     still_alike, still_chips       a sample without a DCLK or LOAD edge changes nothing but the kept levels
--     rises_alike, no_rise_still     whether LOAD rises depends on the levels before by LOAD alone, and there is no rise without an edge
--     row_alike                      what a sample does depends on the levels before by DCLK and LOAD alone
--     same_still, same_step          chains with the same chips stay so
--     kept_same                      samples without those that repeat leave every chip the same
-- Assumes nothing.
use mathlib.Core.Path.{◌≡◌, refl, ap, ap₂, sym, ◌∙◌}
use mathlib.Core.Bool.{Bool, true, false, not, ◌&&◌, true≢false}
use mathlib.Core.List.{List, [], ◌∷◌}
use Prim.Native.Nat.{ℕ, zero, suc}
use Rattle.base.specs.Pick.{pick}
use Rattle.base.proofs.Picks.{pick_no, pick_cases}
use Rattle.chip.specs.Record.{with_line}
use Rattle.chip.specs.declared.Chip.{Chip}
use Rattle.chip.specs.Commands.{dout}
use Rattle.chip.specs.Edges.{din, dclk, load, load_rises, clocked_in, clocked_out, clocked, loaded, stepped}
use Rattle.chain.specs.declared.Chain.{Chain}
use Rattle.chain.specs.Chain.{stepped_row, stepped_chain, played}
use Rattle.chain.specs.Still.{same_level, still, kept}

-- two levels of the wires that agree in DCLK and LOAD
pub record Alike (was like : ℕ) : Type 0 where
  pub clock : dclk was ≡ dclk like
  pub rise : load was ≡ load like

level_same : (a b : Bool) → same_level a b ≡ true → a ≡ b
level_same true b e = sym e
level_same false true e = e
level_same false false e = refl

and_parts : (a b : Bool) → (a && b) ≡ true → (a ≡ true) × (b ≡ true)
and_parts true b e = (refl, e)
and_parts false b e = absurd (true≢false (sym e))

pub still_alike : (was now : ℕ) → still was now ≡ true → Alike was now
still_alike was now e =
    let p = and_parts (same_level (dclk was) (dclk now)) (same_level (load was) (load now)) e in
    record { clock = level_same (dclk was) (dclk now) p.0; rise = level_same (load was) (load now) p.1 }

-- what a sample does to a chip, by the levels of DCLK and LOAD before it
stepped_by_lem : Bool → Bool → ℕ → Bool → Chip → Chip
stepped_by_lem x y now d c =
    let e =
    with_line
    (pick (x && not (dclk now)) (clocked_out c.line) (pick (not x && dclk now) (clocked_in d c.line) c.line))
    c in
    pick (not y && load now) (loaded e) e

stepped_by : (was now : ℕ) (d : Bool) (c : Chip) → stepped was now d c ≡ stepped_by_lem (dclk was) (load was) now d c
unfolding stepped clocked stepped_by_lem
stepped_by was now d c = refl

-- no edge where a level repeats
no_fall : (b : Bool) → (b && not b) ≡ false
no_fall true = refl
no_fall false = refl

no_rise_lem : (b : Bool) → (not b && b) ≡ false
no_rise_lem true = refl
no_rise_lem false = refl

stepped_still : (was now : ℕ) (d : Bool) (c : Chip) → Alike was now → stepped was now d c ≡ c
unfolding stepped_by_lem
stepped_still was now d c a =
    stepped_by was now d c
    ∙ ap₂ (λ x y. stepped_by_lem x y now d c) a.clock a.rise
    ∙ pick_no _ _ (no_rise_lem (load now))
    ∙ ap (λ l. with_line l c) (pick_no _ _ (no_fall (dclk now)) ∙ pick_no _ _ (no_rise_lem (dclk now)))

row_still : (n was now : ℕ) (d : Bool) (cs : List Chip) → Alike was now → stepped_row n was now d cs ≡ cs
unfolding stepped_row
row_still zero was now d cs a = refl
row_still (suc n) was now d [] a = refl
row_still (suc n) was now d (c ∷ cs) a = ap₂ (λ x xs. x ∷ xs) (stepped_still was now d c a) (row_still n was now (dout c) cs a)

pub still_chips : (n s : ℕ) (ch : Chain) → Alike ch.levels s → stepped_chain n s ch ≡ record { chips = ch.chips; levels = s }
still_chips n s ch a = ap (λ cs. record { chips = cs; levels = s }) (row_still n ch.levels s (din s) ch.chips a)

-- ---- the levels before, by DCLK and LOAD alone

pub rises_alike : (was like now : ℕ) → Alike was like → load_rises was now ≡ load_rises like now
rises_alike was like now a = ap (λ y. not y && load now) a.rise

pub no_rise_still : (was now : ℕ) → Alike was now → load_rises was now ≡ false
no_rise_still was now a = ap (λ y. not y && load now) a.rise ∙ no_rise_lem (load now)

pub row_alike : (n was like now : ℕ) (d : Bool) (cs : List Chip) → Alike was like → stepped_row n was now d cs ≡ stepped_row n like now d cs
unfolding stepped_row
row_alike zero was like now d cs a = refl
row_alike (suc n) was like now d [] a = refl
row_alike (suc n) was like now d (c ∷ cs) a =
    ap₂ (λ x xs. x ∷ xs)
    (stepped_by was now d c ∙ ap₂ (λ x y. stepped_by_lem x y now d c) a.clock a.rise ∙ sym (stepped_by like now d c))
    (row_alike n was like now (dout c) cs a)

-- ---- left out

-- two chains with the same chips, whose levels agree in DCLK and LOAD
pub record Same (one two : Chain) : Type 0 where
  pub chips : one.chips ≡ two.chips
  pub alike : Alike one.levels two.levels

pub same_still : (n s : ℕ) (one two : Chain) → Same one two → still two.levels s ≡ true → Same one (stepped_chain n s two)
same_still n s one two q e =
    let a = still_alike two.levels s e in
    record {
      chips = q.chips ∙ sym (ap (λ (c : Chain). c.chips) (still_chips n s two a));
      alike = record { clock = q.alike.clock ∙ a.clock; rise = q.alike.rise ∙ a.rise };
    }

pub same_step : (n s : ℕ) (one two : Chain) → Same one two → Same (stepped_chain n s one) (stepped_chain n s two)
same_step n s one two q =
    record {
      chips =
          row_alike n one.levels two.levels s (din s) one.chips q.alike
          ∙ ap (λ cs. stepped_row n two.levels s (din s) cs) q.chips;
      alike = record { clock = refl; rise = refl };
    }

kept_from : (n : ℕ) (ss : List ℕ) (one two : Chain) → Same one two → (played n (kept two.levels ss) one).chips ≡ (played n ss two).chips
unfolding kept played
kept_from n [] one two q = q.chips
kept_from n (s ∷ ss) one two q =
    pick_cases (λ xs. (played n xs one).chips ≡ (played n ss (stepped_chain n s two)).chips) (still two.levels s)
    (λ e. kept_from n ss one (stepped_chain n s two) (same_still n s one two q e))
    (λ e. kept_from n ss (stepped_chain n s one) (stepped_chain n s two) (same_step n s one two q))

pub kept_same : (n : ℕ) (ss : List ℕ) (ch : Chain) → (played n (kept ch.levels ss) ch).chips ≡ (played n ss ch).chips
kept_same n ss ch = kept_from n ss ch ch (record { chips = refl; alike = record { clock = refl; rise = refl } })
