-- What the inner functions promise to one another. No public promise cites these.
-- Assumes nothing.
use Rattle.std.specs.Prelude.{ℕ, ◌+◌, ◌≤◌, Bool, ◌&&◌, List, eqb, leb, ltb, get_or}
use Rattle.base.specs.Bits.{bit_value}
use Rattle.base.specs.Pick.{pick}
use Rattle.base.specs.Refusals.{Outcome, tells}
use Rattle.word.specs.Words.{decoded_of}
use Rattle.chip.specs.declared.Chip.{Chip}
use Rattle.chip.specs.Record.{reset_chip}
use Rattle.chip.specs.Scans.{Recording}
use Rattle.chip.specs.History.{told, is_key}
use Rattle.chain.specs.declared.Chain.{Chain}
use Rattle.chain.specs.Events.{Event, happened, obeyed}
use Rattle.tallies.specs.declared.Counts.{Counts}
use Rattle.tallies.specs.declared.Tally.{Tally}
use Rattle.tallies.specs.declared.walk.Counting.{Counting}
use Rattle.tallies.specs.declared.walk.Took.{Took}
use Rattle.tallies.specs.Counted.{counting}
use Rattle.tallies.specs.Counts.{plus, record_counts, step_counts}
use Rattle.tallies.specs.Tallies.{each_place, added}

-- ---- counts

-- a step's counts are 0 or 1 each
pub record AtMostOne (c : Counts) : Type 0 where
  pub recorded : c.recorded ≤ 1
  pub read : c.read ≤ 1
  pub overwritten : c.overwritten ≤ 1
  pub cleared : c.cleared ≤ 1

-- no count of a chip is above a number
abbrev pub at_most : ℕ → ℕ → Bool
at_most top count = leb count top

abbrev pub within : ℕ → Counts → Bool
within top c = at_most top c.recorded && at_most top c.read && at_most top c.overwritten && at_most top c.cleared

-- a chip's counts after a LOAD rise, by the chips before the samples that end with it and after them
abbrev pub risen_counts : ℕ → List Chip → List Chip → ℕ → Counts → Counts
risen_counts n befores afters k x =
    pick (ltb k n) (plus x (step_counts (told (obeyed (decoded_of (get_or afters k reset_chip).line.register))) (get_or befores k reset_chip))) x

unfoldable pub risen : ℕ → Chain → Chain → Tally → Tally
risen n before after t =
    record { chips = each_place (risen_counts n before.chips after.chips) 0 t.chips; codes = t.codes; largest = t.largest }

-- the codes' tallies after a code was recorded, and after a scan, by what it recorded
unfoldable pub one_more : ℕ → List ℕ → List ℕ
one_more code codes = each_place (λ j x. x + bit_value (eqb code j)) 0 codes

unfoldable pub codes_after : Recording → List ℕ → List ℕ
codes_after what codes = each_place (λ j x. x + bit_value (is_key j what)) 0 codes

-- a tally after a scan of chip k
unfoldable pub scanned_tally : ℕ → Recording → Tally → Tally
scanned_tally k what t =
    record {
      chips = each_place (λ j x. pick (eqb k j) (plus x (record_counts what)) x) 0 t.chips;
      codes = codes_after what t.codes;
      largest = t.largest;
    }

-- ---- lines

-- the chain and the tally after events that are counted
abbrev pub counting_after : ℕ → List Event → Counting → Counting
counting_after n es s = counting (happened n es s.chain) (added n es s.chain s.tally)

-- what a line leaves and tells
abbrev pub took_of : Took → Outcome Counting (Unit {0})
took_of t = record { state = t.state; told = tells t.answer }

-- of a chain and a tally the tally
abbrev pub tally_of : Outcome Counting (Unit {0}) → Outcome Tally (Unit {0})
tally_of o = record { state = o.state.tally; told = o.told }
