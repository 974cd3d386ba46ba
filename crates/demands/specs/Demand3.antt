-- The third of the three demands: "A chain of 1 to 8 chips in any valid state, DCLK and LOAD high, the keypad enabled on no chip but the
-- last; any rows of commands that the writer accepts; the written samples played, with key scans falling between them anywhere.
-- Each chip's settings, display and key record end as if its own commands, each once and in row order, and its own scans had
-- been applied directly, a command standing where its row's LOAD rise stands. At no other sample do they change."
-- Demand3 says it of every beginning of the written samples, so it says what stands after each sample and each scan. OwnWords
-- says that over a whole play the commands are the rows' words, each once and in row order; NoOtherSample says by itself that
-- other samples change nothing, whatever they are; PremisesAgain says that writes follow one another.
-- Assumes nothing.
use Rattle.std.specs.Prelude.{◌≡◌, true, false, List, [], ◌∷◌, ◌++◌, map, ℕ, ◌<◌, T, leb, eqb, length}
use Rattle.base.specs.Pick.{pick}
use Rattle.base.specs.Refusals.{done}
use Rattle.word.specs.Words.{decoded_of}
use Rattle.chip.specs.declared.Chip.{Chip}
use Rattle.chip.specs.Record.{body_of}
use Rattle.chip.specs.Edges.{dclk, load, load_rises}
use Rattle.chip.specs.History.{Step, told, after}
use Rattle.chip.specs.History as History
use Rattle.chain.specs.declared.Chain.{Chain}
use Rattle.chain.specs.Chain.{most, chip_count, all_valid, KeypadLast}
use Rattle.chain.specs.Entries.{chip_at}
use Rattle.chain.specs.Events.{Event, sample, scan, happened, samples_in, ScansBelow}
use Rattle.writer.specs.Rows.{rows_of, written, list_test}
use Rattle.demands.specs.Events.{word_for, steps_for, commands_in}

-- what is asked of the panel
pub record AskedPanel (n : ℕ) (ch : Chain) : Type 0 where
  -- 1 to 8 chips; the record of a chain always holds the most
  pub count : T (chip_count n)
  pub places : length ch.chips ≡ most
  -- in any valid state
  pub valid : T (all_valid n ch.chips)
  -- the keypad enabled on no chip but the last
  pub keypad : KeypadLast n ch.chips

-- what is asked of the levels on the wires: at most 7, with DCLK and LOAD high
pub record AskedLevels (levels : ℕ) : Type 0 where
  pub small : T (leb levels 7)
  pub dclk_high : dclk levels ≡ true
  pub load_high : load levels ≡ true

-- what is asked of a number of chips and a chain
pub record AskedChain (n : ℕ) (ch : Chain) : Type 0 where
  pub panel : AskedPanel n ch
  pub levels : AskedLevels ch.levels

-- and of a list of words
pub record Asked (n : ℕ) (ch : Chain) (ws : List ℕ) : Type 0 where
  pub chain : AskedChain n ch
  -- rows of commands that the writer accepts
  pub accepted : list_test n ws ≡ done tt

-- after any events whose samples are a beginning of the written ones, each chip's settings, display and key record are as if
-- its own commands and scans had been applied directly
abbrev pub Demand3 : Type 0
Demand3 =
    (n : ℕ) (ch : Chain) (ws : List ℕ)
    → Asked n ch ws
    → (es : List Event) (rest : List ℕ)
    → ScansBelow n es
    → samples_in es ++ rest ≡ written n ws
    → (k : ℕ) → k < n
    → body_of (chip_at k (happened n es ch)) ≡ body_of (after (steps_for k ch.levels (rows_of n ws) es) (chip_at k ch))

-- over a whole play the commands told to chip k are those of its words of the rows, each once and in row order, whatever scans
-- fall between
abbrev pub OwnWords : Type 0
OwnWords =
    (n : ℕ) (ch : Chain) (ws : List ℕ)
    → Asked n ch ws
    → (es : List Event)
    → samples_in es ≡ written n ws
    → (k : ℕ) → k < n
    → map done (commands_in (steps_for k ch.levels (rows_of n ws) es)) ≡ map (λ row. decoded_of (word_for k row)) (rows_of n ws)

-- the scans of a history, in order
abbrev pub scans_in : List Step → List (List ℕ)
scans_in [] = []
scans_in (told command ∷ h) = scans_in h
scans_in (History.scan bytes ∷ h) = bytes ∷ scans_in h

-- the scans that name chip k, in order
abbrev pub scans_of : ℕ → List Event → List (List ℕ)
scans_of k [] = []
scans_of k (sample s ∷ es) = scans_of k es
scans_of k (scan j bytes ∷ es) = pick (eqb j k) (bytes ∷ []) [] ++ scans_of k es

-- chip k ends as after a history of commands and scans applied to it directly: its commands are those of its own words, each once and
-- in row order, and its scans are its own, in order
pub record TookItsOwn (n k : ℕ) (ws : List ℕ) (es : List Event) (before end : Chip) (steps : List Step) : Type 0 where
  pub ends : body_of end ≡ body_of (after steps before)
  pub commands : map done (commands_in steps) ≡ map (λ row. decoded_of (word_for k row)) (rows_of n ws)
  pub scans : scans_in steps ≡ scans_of k es

-- after any events, a sample without a LOAD rise changes no chip's settings, display and key record
abbrev pub NoOtherSample : Type 0
NoOtherSample =
    (n : ℕ) (ch : Chain) (es : List Event) (s : ℕ)
    → load_rises (happened n es ch).levels s ≡ false
    → (k : ℕ)
    → body_of (chip_at k (happened n (es ++ sample s ∷ []) ch)) ≡ body_of (chip_at k (happened n es ch))

-- after a whole play, with any scans, the chain is as asked for any other list that the writer accepts
abbrev pub PremisesAgain : Type 0
PremisesAgain =
    (n : ℕ) (ch : Chain) (ws : List ℕ)
    → Asked n ch ws
    → (es : List Event)
    → samples_in es ≡ written n ws
    → (vs : List ℕ)
    → list_test n vs ≡ done tt
    → Asked n (happened n es ch) vs
