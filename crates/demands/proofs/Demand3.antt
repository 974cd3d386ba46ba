-- Demand 3: the theorem.
--     room          there are at most as many chips as records
--     begins        a chain as demand 3 asks for it, with the written samples to come, is one in the middle of a write
--     demand_3      each chip's settings, display and key record are as if its own commands and scans had been applied directly
-- Assumes nothing.
use mathlib.Core.Path.{◌≡◌, refl, ap, sym, subst, ◌∙◌}
use mathlib.Core.List.{List, [], ◌∷◌, ◌++◌}
use Prim.Native.Nat.{ℕ, zero, suc, ◌≤◌}
use lib.Dec.{leb}
use lib.ListN.{length}
use Rattle.base.proofs.Tests.{and_both}
use Rattle.chip.specs.declared.Chip.{Chip}
use Rattle.chain.specs.declared.Chain.{Chain}
use Rattle.chain.specs.Chain.{most, all_valid}
use Rattle.base.specs.Below.{AllBelow}
use Rattle.chain.proofs.Clocks.{registers_below, registers_length, registers, held}
use Rattle.chain.proofs.Tested.{count_high}
use Rattle.chain.specs.Events.{samples_in}
use Rattle.writer.specs.Rows.{rows_of, written}
use Rattle.demands.specs.Demand3.{Asked, Demand3}
use Rattle.demands.proofs.Writes.{registers_in, Writes, writes_rows}
use Rattle.demands.proofs.Accepted.{rows_accepted, fit_rows}
use Rattle.demands.proofs.Going.{Going, as_told}

-- the registers among what is held are the chips'
registers_held : (n : ℕ) (cs : List Chip) → registers n cs ≡ registers_in (held n cs)
unfolding registers held
registers_held zero cs = refl
registers_held (suc n) [] = refl
registers_held (suc n) (c ∷ cs) = ap (λ rs. c.line.register ∷ rs) (registers_held n cs)

module _ (n : ℕ) (ch : Chain) (ws : List ℕ) (asked : Asked n ch ws) where
  pub room : n ≤ most
  room = count_high n asked.chain.panel.count

  pub begins : (ss : List ℕ) → ss ≡ written n ws → Going n most ch (rows_of n ws) ss
  begins ss whole =
      let fit = rows_accepted n ws asked.accepted in
      let same = registers_held n ch.chips in
      record {
        standing = record { size = asked.chain.panel.places; valid = and_both (all_valid n ch.chips) (leb ch.levels 7) asked.chain.panel.valid asked.chain.levels.small; keypad = asked.chain.panel.keypad };
        fit = fit;
        writes =
            subst (Writes ch.levels (held n ch.chips) (rows_of n ws)) (sym whole)
            (writes_rows n (rows_of n ws) ch.levels (held n ch.chips) asked.chain.levels.dclk_high asked.chain.levels.load_high (fit_rows n (rows_of n ws) fit)
            (subst (AllBelow 4096) same (registers_below n ch.chips asked.chain.panel.valid))
            (ap length (sym same) ∙ registers_length n ch.chips (subst (λ x. n ≤ x) (sym asked.chain.panel.places) room)));
      }

pub demand_3 : Demand3
demand_3 n ch ws asked es rest below whole k h =
    as_told n most (room n ch ws asked) es rest ch (rows_of n ws) (begins n ch ws asked (samples_in es ++ rest) whole) below k h
