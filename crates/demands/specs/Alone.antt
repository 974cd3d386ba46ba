-- Document 01, "Refusal numbers": "One chip alone counts as N = 1". What an entry of one chip tells and hands back is what the entry of a
-- chain of one does, of that chip; a chain's levels, which a chip alone hasn't, are at most 7 where the chip's entry isn't given any.
-- Assumes nothing.
use Rattle.std.specs.Prelude.{◌≡◌, List, [], ◌∷◌, ℕ, ◌≤◌, length}
use Rattle.base.specs.Refusals.{Outcome}
use Rattle.word.specs.declared.Command.{Command}
use Rattle.chip.specs.declared.Chip.{Chip}
use Rattle.chip.specs.Entries as One
use Rattle.chain.specs.declared.Chain.{Chain}
use Rattle.chain.specs.Chain.{most}
use Rattle.chain.specs.Entries.{chip_at, played_of, scanned_of, applied_of, segments_of}

-- the chain's first chip is what the chip's entry hands back, and both tell the same
abbrev pub SameAlone : {A : Type 0} → Outcome Chain A → Outcome Chip A → Type 0
SameAlone chain one = (chain.told ≡ one.told) × (chip_at 0 chain.state ≡ one.state)

pub record AloneIsOne : Type 0 where
  -- chip::sample, and chain::play::play of one sample
  pub sample : (ch : Chain) → length ch.chips ≡ most → (s : ℕ) → SameAlone (played_of 1 ch (s ∷ [])) (One.sampled_of (chip_at 0 ch) ch.levels s)
  -- chip::scan and chain::one::scan
  pub scan : (ch : Chain) → length ch.chips ≡ most → ch.levels ≤ 7 → (bytes : List ℕ)
      → SameAlone (scanned_of 1 ch 0 bytes) (One.scanned_of (chip_at 0 ch) bytes)
  -- chip::apply and chain::one::apply
  pub apply : (ch : Chain) → length ch.chips ≡ most → ch.levels ≤ 7 → (command : Command)
      → SameAlone (applied_of 1 ch 0 command) (One.applied_of (chip_at 0 ch) command)
  -- chip::segments_lit and chain::one::segments_lit
  pub segments : (ch : Chain) → length ch.chips ≡ most → ch.levels ≤ 7 → segments_of 1 ch 0 ≡ One.segments_of (chip_at 0 ch)
