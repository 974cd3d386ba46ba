-- C-21, the tally: four counts for each chip, and a tally for each of the 128 seven-bit codes. What events add to it, from the history
-- of each chip; and refusal 16's test.
-- Assumes nothing.
use Rattle.std.specs.Prelude.{ℕ, suc, ◌+◌, ◌-◌, ◌^◌, Bool, ◌&&◌, List, [], ◌∷◌, leb, ltb, replicate}
use Rattle.base.specs.Below.{sum_below, every}
use Rattle.base.specs.Pick.{pick}
use Rattle.chip.specs.History.{Step, times}
use Rattle.chain.specs.declared.Chain.{Chain}
use Rattle.chain.specs.Chain.{most}
use Rattle.chain.specs.Entries.{chip_at}
use Rattle.chain.specs.Events.{Event, history_of}
use Rattle.tallies.specs.declared.Counts.{Counts}
use Rattle.tallies.specs.declared.Tally.{Tally}
use Rattle.tallies.specs.Counts.{no_counts, plus, counts_of}

-- a tally at the start: all zero
abbrev pub fresh : Tally
fresh = record { chips = replicate most no_counts; codes = replicate 128 0; largest = 0 }

-- each element of a list, changed as its place says; places from a number on
unfoldable pub each_place {ℓ} : {A : Type ℓ} → (ℕ → A → A) → ℕ → List A → List A
each_place f k [] = []
each_place f k (x ∷ xs) = f k x ∷ each_place f (suc k) xs

-- ---- what events add

-- the history of chip k; a chip from N on has none
abbrev pub own_history : ℕ → ℕ → List Event → Chain → List Step
own_history k n es ch = pick (ltb k n) (history_of k n es ch) []

-- the four counts of chip k, from its history
abbrev pub counts_at : ℕ → List Event → Chain → ℕ → Counts
counts_at n es ch k = counts_of (own_history k n es ch) (chip_at k ch)

-- how many times a code was recorded, on all chips
abbrev pub times_in : ℕ → List Event → Chain → ℕ → ℕ
times_in n es ch code = sum_below (λ k. times code (own_history k n es ch) (chip_at k ch)) most

-- a tally that goes on over events of a chain
unfoldable pub added : ℕ → List Event → Chain → Tally → Tally
added n es ch t =
    record {
      chips = each_place (λ k x. plus x (counts_at n es ch k)) 0 t.chips;
      codes = each_place (λ code x. x + times_in n es ch code) 0 t.codes;
      largest = t.largest;
    }

-- ---- refusal 16's test

-- the largest count
abbrev pub largest_count : ℕ
largest_count = 2 ^ 64 - 1

-- a count plus so many isn't above the largest
abbrev pub has_room : ℕ → ℕ → Bool
has_room m count = leb (count + m) largest_count

-- nor is any of a chip's four
abbrev pub have_room : ℕ → Counts → Bool
have_room m c = has_room m c.recorded && has_room m c.read && has_room m c.overwritten && has_room m c.cleared

-- no count of a tally plus so many is above the largest: those of chips from N on are counts too
unfoldable pub fits : ℕ → Tally → Bool
fits m t = every (have_room m) t.chips && every (has_room m) t.codes
