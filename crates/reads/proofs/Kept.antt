-- What is kept after a sample.
--     kept_agrees     whether the reader agreed
--     kept_quiet      that it was quiet
--     kept_level      a sample's recorded level
--     kept_known      so a level is recorded then
--     kept_looking    once a level was recorded, a read word begins a readout, and the sample is kept
--     kept_first      the first recorded level is kept, and nothing else changes
--     kept_looks      once a level was recorded the reader never waits again
--     begins_runs     a readout was begun where a LOAD rise leaves one running
-- Assumes nothing.
use Rattle.std.proofs.Common.{◌≡◌, ℕ, ◌/◌, ◌%◌, Bool, true, false, not, ◌&&◌, eqb, ltb, refl, ap, ◌∙◌, arith, le-ltb}
use Rattle.base.specs.Bits.{bit}
use Rattle.base.specs.Pick.{pick}
use Rattle.base.proofs.Picks.{pick_yes, pick_no, pick_cases}
use Rattle.chip.specs.declared.Chip.{Chip}
use Rattle.chip.specs.Edges.{load_rises}
use Rattle.reads.specs.declared.Dout.TheVariants.{Missing, Low, High}
use Rattle.reads.specs.declared.Reader.{Reader}
use Rattle.reads.specs.Reads.{recorded_in, looking, with_sample, begins_readout, begun, kept}
use Rattle.reads.specs.Till.{keypad_on, runs, was_recorded}

and_regroup : (s t u : Bool) → (s && t && u) ≡ (s && (t && u))
and_regroup true t u = refl
and_regroup false t u = refl

module _ (was b offset : ℕ) (c : Chip) (r : Reader) where
  pub kept_agrees : (kept was b offset c r).agrees ≡ r.agrees
  unfolding kept
  kept_agrees =
      pick_cases (λ (x : Reader). x.agrees ≡ r.agrees) (looking r.dout)
      (λ e. pick_cases (λ (x : Reader). x.agrees ≡ r.agrees) (begins_readout was (b % 8) c) (λ e. refl) (λ e. refl))
      (λ e. pick_cases (λ (x : Reader). x.agrees ≡ r.agrees) (ltb b 0x10) (λ e. refl) (λ e. refl))

  pub kept_quiet : r.quiet ≡ true → (kept was b offset c r).quiet ≡ true
  unfolding kept
  kept_quiet q =
      pick_cases (λ (x : Reader). x.quiet ≡ true) (looking r.dout)
      (λ e. pick_cases (λ (x : Reader). x.quiet ≡ true) (begins_readout was (b % 8) c) (λ e. refl) (λ e. q))
      (λ e. pick_cases (λ (x : Reader). x.quiet ≡ true) (ltb b 0x10) (λ e. q) (λ e. q))

  -- a sample with DOUT isn't below 10H
  with_dout : b / 16 ≡ 1 → ltb b 0x10 ≡ false
  with_dout h = le-ltb b 0x10 (omega arith)

  level_known : b / 16 ≡ 1 → was_recorded (recorded_in b) ≡ true
  level_known h =
      ap was_recorded (pick_no Missing (pick (bit b 3) High Low) (with_dout h))
      ∙ pick_cases (λ x. was_recorded x ≡ true) (bit b 3) (λ e. refl) (λ e. refl)

  pub kept_level : b / 16 ≡ 1 → (kept was b offset c r).dout ≡ recorded_in b
  unfolding kept
  kept_level h =
      pick_cases (λ (x : Reader). x.dout ≡ recorded_in b) (looking r.dout) (λ e. refl)
      (λ e. ap (λ (x : Reader). x.dout) (pick_no r (with_sample (recorded_in b) offset r) (with_dout h)))

  pub kept_known : b / 16 ≡ 1 → was_recorded (kept was b offset c r).dout ≡ true
  kept_known h = ap was_recorded (kept_level h) ∙ level_known h

  pub kept_looking : looking r.dout ≡ true → kept was b offset c r ≡ with_sample (recorded_in b) offset (begun (begins_readout was (b % 8) c) r)
  unfolding kept
  kept_looking e = pick_yes _ _ e

  pub kept_first : looking r.dout ≡ false → b / 16 ≡ 1 → kept was b offset c r ≡ with_sample (recorded_in b) offset r
  unfolding kept
  kept_first e h = pick_no _ _ e ∙ pick_no _ _ (with_dout h)

  pub kept_looks : looking r.dout ≡ true → looking (kept was b offset c r).dout ≡ true
  kept_looks e =
      ap (λ (x : Reader). looking x.dout) (kept_looking e)
      ∙ pick_cases (λ x. looking x ≡ true) (ltb b 0x10) (λ f. refl) (λ f. pick_cases (λ x. looking x ≡ true) (bit b 3) (λ g. refl) (λ g. refl))

  pub begins_runs : begins_readout was (b % 8) c ≡ (load_rises was (b % 8) && runs c)
  begins_runs = and_regroup (load_rises was (b % 8)) (keypad_on c) (not (eqb c.line.readout.left 0))
