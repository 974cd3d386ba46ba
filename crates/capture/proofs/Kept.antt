-- Samples whose DCLK and LOAD repeat may be left out of a capture: what is written at LOAD rises stays the same.
--     kept_writes      samples without those that repeat write the same
-- Assumes nothing.
use mathlib.Core.Path.{◌≡◌, refl, ap, ap₂, sym, ◌∙◌}
use mathlib.Core.List.{List, [], ◌∷◌, ◌++◌}
use Prim.Native.Nat.{ℕ}
use lib.ListN.{take}
use Rattle.base.specs.Pick.{pick}
use Rattle.base.proofs.Picks.{pick_no, pick_cases}
use Rattle.chip.specs.declared.Chip.{Chip}
use Rattle.chip.specs.Edges.{load_rises}
use Rattle.chain.specs.declared.Chain.{Chain}
use Rattle.chain.specs.Chain.{stepped_chain}
use Rattle.chain.specs.Still.{still, kept}
use Rattle.chain.proofs.Still.{Same, still_alike, no_rise_still, rises_alike, same_still, same_step}
use Rattle.capture.specs.declared.Report.{Report}
use Rattle.capture.specs.Reports.{at_rise, rise_lines}
use Rattle.capture.specs.Replay.{rises_in}

module _ (what : Report) (n : ℕ) where
  writes_from : (ss : List ℕ) (one two : Chain) → Same one two → rises_in what n (kept two.levels ss) one ≡ rises_in what n ss two
  unfolding kept rises_in
  writes_from [] one two q = refl
  writes_from (s ∷ ss) one two q =
      pick_cases (λ xs. rises_in what n xs one ≡ pick (load_rises two.levels s) (at_rise what n next) [] ++ rises_in what n ss next) (still two.levels s)
      (λ e.
      writes_from ss one next (same_still n s one two q e)
      ∙ sym (ap (λ p. p ++ rises_in what n ss next) (pick_no _ _ (no_rise_still two.levels s (still_alike two.levels s e)))))
      (λ e.
      ap₂ (λ p r. p ++ r)
      (ap₂ (λ b (cs : List Chip). pick b (rise_lines what 0 (take n cs)) []) (rises_alike one.levels two.levels s q.alike) (same_step n s one two q).chips)
      (writes_from ss (stepped_chain n s one) next (same_step n s one two q)))
    where
      next : Chain
      next = stepped_chain n s two

  pub kept_writes : (ss : List ℕ) (ch : Chain) → rises_in what n (kept ch.levels ss) ch ≡ rises_in what n ss ch
  kept_writes ss ch = writes_from ss ch ch (record { chips = refl; alike = record { clock = refl; rise = refl } })
