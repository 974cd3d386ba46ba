-- C-21: the insurer's second question to its end, how many read words find an interrupt while one key is pressed; and the table of
-- `tallies::count`, its refusals in order: 11, 12, then lines from the first on, 10 before 16.
-- Assumes nothing.
use Rattle.std.specs.Prelude.{◌≡◌, false, ◌⊎◌, List, [], ◌∷◌, ℕ, suc, ◌+◌, ◌≤◌, ◌<◌, length, get_or}
use Rattle.chain.specs.declared.Chain.{Chain}
use Rattle.chain.specs.Chain.{most}
use Rattle.chain.specs.Entries.{chip_at, start_chain}
use Rattle.chain.specs.Events.{Event, happened, history_of}
use Rattle.lines.specs.Lines.{Line, lines_of, bytes_in}
use Rattle.capture.specs.Frames.{first_of, form_of}
use Rattle.capture.specs.Parts.{chips_in}
use Rattle.tallies.specs.declared.Counts.{Counts}
use Rattle.tallies.specs.declared.Tally.{Tally}
use Rattle.tallies.specs.Counts.{counts_of}
use Rattle.tallies.specs.Tallies.{added, largest_count}
use Rattle.tallies.specs.Counted.{with_chips}
use Rattle.tallies.specs.Balance.{counts_for, events_in}
use Rattle.demands.specs.Exact.{Row, names, row}
use Rattle.demands.specs.Answers.{Codes, KeptDown, Bounced}
use Rattle.demands.specs.Texts.{FirstLine, OtherLine}

-- ---- 2: how many read words find an interrupt

-- where no interrupt stands on chip k at the start, at most one read word that it obeys finds one
abbrev pub AtMostOneRead : (n k a : ℕ) → Chain → List Event → Type 0
AtMostOneRead n k a ch es = (chip_at k ch).keys.interrupt ≡ false → (counts_of (history_of k n es ch) (chip_at k ch)).read ≤ 1

-- chip k obeys no reset, and its scans keep finding key a
abbrev pub OneRead : Type 0
OneRead = Codes KeptDown AtMostOneRead

-- or single empty scans break the press, while nothing but scans sets the last scan
abbrev pub OneReadBroken : Type 0
OneReadBroken = Codes Bounced AtMostOneRead

-- ---- 16

-- a count plus so many is above the largest
abbrev pub CountAbove : ℕ → ℕ → Type 0
CountAbove m count = largest_count < count + m

-- one of a chip's four is
abbrev pub ChipAbove : ℕ → Counts → Type 0
ChipAbove m c = ((CountAbove m c.recorded ⊎ CountAbove m c.read) ⊎ CountAbove m c.overwritten) ⊎ CountAbove m c.cleared

-- some chip's count is, in the chain or not, or some code's tally
abbrev pub SomeCountAbove : ℕ → Tally → Type 0
SomeCountAbove m t = ((k : ℕ) × (k < most) × ChipAbove m (counts_for k t)) ⊎ ((code : ℕ) × (code < 128) × CountAbove m (get_or t.codes code 0))

-- ---- the table of a text

-- lines after the first, which gave N, from a line's number on. 10: a line isn't of the form; 16: some count of the tally before the line
-- plus the number of the line's samples and scans is above the largest. The next line finds what this one leaves
abbrev pub count_rows : Line → ℕ → ℕ → Chain → Tally → List Line → List Row
count_rows first n number ch t [] = []
count_rows first n number ch t (l ∷ ls) =
    let es = events_in (form_of n (bytes_in l)) in
    names 10 number (OtherLine first l → ⊥) ∷ names 16 number (SomeCountAbove (length es) t) ∷ count_rows first n (suc number) (happened n es ch) (added n es ch t) ls

-- 10, the first missing included; the first line's N counts for the largest, and starts the chain
abbrev pub count_lines : Tally → List Line → List Row
count_lines t [] = names 10 1 (Unit {0}) ∷ []
count_lines t (first ∷ ls) =
    let n = chips_in (first_of (bytes_in first)) in
    names 10 1 (((n : ℕ) × FirstLine first n) → ⊥) ∷ count_rows first n 2 start_chain (with_chips n t) ls

-- tallies::count: 11 before any other, then 12, a tally whose largest N is above the most chips
abbrev pub count_table : Tally → List ℕ → List Row
count_table t text = row 11 (65536 < length text) ∷ row 12 (most < t.largest) ∷ count_lines t (lines_of text)
