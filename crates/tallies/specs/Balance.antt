-- C-21, what a tally says of itself: every code that is recorded is read, overwritten, cleared or still unread; and the codes' tallies
-- add up to the codes recorded.
-- Assumes nothing.
use Rattle.std.specs.Prelude.{◌≡◌, ℕ, suc, ◌+◌, ◌≤◌, ◌<◌, true, List, [], ◌∷◌, ◌++◌, map, leb, length, get_or}
use Rattle.base.specs.Below.{sum_below}
use Rattle.base.specs.Bits.{bit_value}
use Rattle.base.specs.Pick.{pick}
use Rattle.base.specs.Refusals.{Told, done, refused}
use Rattle.word.specs.declared.Command.TheVariants.{ReadKey}
use Rattle.chip.specs.declared.Chip.{Chip}
use Rattle.chip.specs.Record.{none, valid, reset_chip, with_keys}
use Rattle.chip.specs.Commands.{applied}
use Rattle.chip.specs.Scans.{code_of, scanned}
use Rattle.chip.specs.History as History
use Rattle.chip.specs.History.{Step, told, after, times}
use Rattle.chain.specs.declared.Chain.{Chain}
use Rattle.chain.specs.Chain.{most}
use Rattle.chain.specs.Entries.{start_chain, chip_at}
use Rattle.chain.specs.Events as Events
use Rattle.chain.specs.Events.{Event, sample, happened, ScansBelow}
use Rattle.lines.specs.Lines.{Line, lines_of, bytes_in}
use Rattle.capture.specs.Frames.{Form, samples, scan, other, form_of, first_of}
use Rattle.capture.specs.Parts.{first_in, chips_in}
use Rattle.tallies.specs.declared.Counts.{Counts}
use Rattle.tallies.specs.declared.Tally.{Tally}
use Rattle.tallies.specs.declared.walk.Counting.{Counting}
use Rattle.tallies.specs.Counts.{no_counts, command_counts, counts_of}
use Rattle.tallies.specs.Tallies.{fresh, added}
use Rattle.tallies.specs.Counted.{counted_line, begun, with_chips, walked, counted_of}

-- ---- the balance of a chip

-- whether an interrupt stands, as a number
abbrev pub standing : Chip → ℕ
standing c = bit_value c.keys.interrupt

-- codes that no longer stand: read, overwritten or cleared
abbrev pub gone : Counts → ℕ
gone c = c.read + c.overwritten + c.cleared

-- from any chip on, valid or not: an interrupt that stood at the start and every code recorded is read, overwritten, cleared, or stands at
-- the end
abbrev pub Balances : Type 0
Balances = (h : List Step) (c : Chip) → standing c + (counts_of h c).recorded ≡ gone (counts_of h c) + standing (after h c)

-- ---- why a read word with KEYB off doesn't count

-- the other reading: read words that find an interrupt, KEYB on or off
unfoldable pub read_anyhow : List Step → Chip → ℕ
read_anyhow [] c = 0
read_anyhow (told command ∷ h) c = (command_counts command true c.keys.interrupt).read + read_anyhow h (applied command c)
read_anyhow (History.scan bytes ∷ h) c = read_anyhow h (scanned bytes c)

-- a chip with KEYB off and an interrupt
abbrev pub unread_off : Chip
unread_off = with_keys (record { code = code_of 0; interrupt = true; last = none }) reset_chip

-- one read word
abbrev pub one_read : List Step
one_read = told ReadKey ∷ []

-- the tests of refusal 12 let that chip through, and after one read word, which leaves the interrupt, the other reading has one too many
pub record AnyhowFails : Type 0 where
  pub passes : valid unread_off ≡ true
  pub stood_or_recorded : standing unread_off + (counts_of one_read unread_off).recorded ≡ 1
  pub gone_or_stands : read_anyhow one_read unread_off + (counts_of one_read unread_off).overwritten + (counts_of one_read unread_off).cleared + standing (after one_read unread_off) ≡ 2

-- ---- the codes' tallies

-- a chip's: over all 128 codes the times that they were recorded add up to the codes recorded
abbrev pub CodesAddUp : Type 0
CodesAddUp = (h : List Step) (c : Chip) → sum_below (λ code. times code h c) 128 ≡ (counts_of h c).recorded

-- the sum of a list
unfoldable pub total : List ℕ → ℕ
total [] = 0
total (x ∷ xs) = x + total xs

-- the codes recorded on all chips, and the tallies of all codes
abbrev pub all_recorded : Tally → ℕ
all_recorded t = total (map (λ (c : Counts). c.recorded) t.chips)

abbrev pub all_tallied : Tally → ℕ
all_tallied t = total t.codes

-- a tally's: by what the codes recorded on all chips go up, the tallies of all codes do
abbrev pub GoUpAlike : Tally → Tally → Type 0
GoUpAlike t u = all_tallied u + all_recorded t ≡ all_tallied t + all_recorded u

abbrev pub EventsAddUp : Type 0
EventsAddUp = (n : ℕ) (es : List Event) (ch : Chain) (t : Tally) → length t.chips ≡ most → length t.codes ≡ 128 → GoUpAlike t (added n es ch t)

-- ---- a text

-- a tally but for the largest N
abbrev pub with_largest : ℕ → Tally → Tally
with_largest n t = record { chips = t.chips; codes = t.codes; largest = n }

-- the samples and scans of a line
abbrev pub events_in : Form → List Event
events_in (samples ss) = map sample ss
events_in (scan k bytes) = Events.scan k bytes ∷ []
events_in other = []

-- those of a line that was taken, and then others; none, where it was refused
abbrev pub taken_then : Told (Unit {0}) → List Event → List Event → List Event
taken_then (done u) es later = es ++ later
taken_then (refused number place) es later = []

-- those of lines, up to the first that is refused
unfoldable pub taken_in : ℕ → ℕ → Counting → List Line → List Event
taken_in n line s [] = []
taken_in n line s (l ∷ ls) =
    let o = counted_line n line s (form_of n (bytes_in l)) in
    taken_then o.told (events_in (form_of n (bytes_in l))) (taken_in n (suc line) o.state ls)

-- those of the lines after the first
abbrev pub taken_after : Tally → Told ℕ → List Line → List Event
taken_after t (done n) ls = taken_in n 2 (begun (with_chips n t)) ls
taken_after t (refused number place) ls = []

abbrev pub taken_all : Tally → List Line → List Event
taken_all t [] = []
taken_all t (l ∷ ls) = taken_after t (first_of (bytes_in l)) ls

-- those of a text
abbrev pub taken_of : Tally → List ℕ → List Event
taken_of t text = pick (leb (length text) 65536) (pick (leb t.largest most) (taken_all t (lines_of text)) []) []

-- the number of chips that a text's first line gives
abbrev pub chips_of : List ℕ → ℕ
chips_of text = chips_in (first_in (lines_of text))

-- a chain and a tally are what events leave of a started chain of N chips and of a tally, but for the largest N
pub record Played (n : ℕ) (es : List Event) (t : Tally) (s : Counting) : Type 0 where
  pub few : n ≤ most
  pub below : ScansBelow n es
  pub chain : s.chain ≡ happened n es start_chain
  pub tally : s.tally ≡ added n es start_chain (with_largest s.tally.largest t)

-- after a text they are what the samples and scans of the lines that were taken leave
abbrev pub TextsPlay : Type 0
TextsPlay = (t : Tally) (text : List ℕ) → Played (chips_of text) (taken_of t text) t (walked t text).state

-- the counts of chip k
abbrev pub counts_for : ℕ → Tally → Counts
counts_for k t = get_or t.chips k no_counts

-- by what the codes recorded on chip k go up over a text, refused or not, those read, overwritten and cleared do, but for one where an
-- interrupt stands at its end
abbrev pub TextsBalance : Type 0
TextsBalance =
    (t : Tally) (text : List ℕ)
    → length t.chips ≡ most
    → (k : ℕ) → k < most
    → (counts_for k (counted_of t text).state).recorded + gone (counts_for k t)
    ≡ (counts_for k t).recorded + gone (counts_for k (counted_of t text).state) + standing (chip_at k (walked t text).state.chain)

-- and the tallies of all codes go up by what the codes recorded on all chips do
abbrev pub TextsAddUp : Type 0
TextsAddUp = (t : Tally) (text : List ℕ) → length t.chips ≡ most → length t.codes ≡ 128 → GoUpAlike t (counted_of t text).state

-- so the sum of the tallies of all codes is the codes recorded on all chips: at the start, and if before a text, then after it
pub record SumsAgree : Type 0 where
  pub start : all_tallied fresh ≡ all_recorded fresh
  pub kept : (t : Tally) (text : List ℕ) → length t.chips ≡ most → length t.codes ≡ 128 → all_tallied t ≡ all_recorded t
      → all_tallied (counted_of t text).state ≡ all_recorded (counted_of t text).state
