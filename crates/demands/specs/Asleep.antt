-- Document 02, C-17, what the rule is for: where the writer accepts a list, each chip that is put to sleep by it shows nothing and takes no
-- keys just before it sleeps.
--     SwitchedDark                 such a chip
--     DarkBeforeSleep              the statement of samples, with scans between
--     DarkBeforeSleepOfCalls       the statement of calls by their contracts alone
--     SomeSleep                    what they ask can be had
-- Assumes nothing.
use Rattle.std.specs.Prelude.{◌≡◌, true, false, List, [], ◌∷◌, ◌++◌, ℕ, ◌<◌, take}
use Rattle.chip.specs.declared.Chip.{Chip}
use Rattle.chip.specs.Record.{blank}
use Rattle.chip.specs.Edges.{load_rises}
use Rattle.chip.specs.Scans.{nothing, recorded}
use Rattle.chip.specs.Segments.{lit_of}
use Rattle.chain.specs.declared.Chain.{Chain}
use Rattle.chain.specs.Entries.{chip_at, start_chain, played_of}
use Rattle.chain.specs.Events.{Event, sample, happened, samples_in, ScansBelow}
use Rattle.writer.specs.Rows.{written}
use Rattle.writer.specs.Written.{Writes}
use Rattle.demands.specs.Demand3.{AskedChain, Asked}
use Rattle.demands.specs.Calls.{Call, events_of, blocks_of, Ran}
use Rattle.std.specs.declared.result.Result.{Result}
use Rattle.base.specs.declared.Refusal.{Refusal}
use Rattle.base.specs.declared.Handed.{Handed}
use Rattle.base.specs.Refusals.{handed}
use Rattle.std.specs.declared.result.Result.TheVariants.{Ok}

-- DISP and KEYB are 0; so no segment is lit, and no scan records a key, whatever contacts are closed
pub record SwitchedDark (c : Chip) : Type 0 where
  pub disp : c.settings.system.disp ≡ false
  pub keyb : c.settings.system.keyb ≡ false
  pub shows_nothing : lit_of c ≡ blank
  pub takes_no_keys : (bytes : List ℕ) → recorded bytes c ≡ nothing

-- from any state that demand 3 asks for, whatever was scanned: at a LOAD rise of the written samples after which chip k sleeps, it was so
-- just before
abbrev pub DarkBeforeSleep : Type 0
DarkBeforeSleep =
    (n : ℕ) (ch : Chain) (ws : List ℕ)
    → Asked n ch ws
    → (es : List Event) (s : ℕ) (rest : List ℕ)
    → ScansBelow n es
    → samples_in es ++ (s ∷ rest) ≡ written n ws
    → load_rises (happened n es ch).levels s ≡ true
    → (k : ℕ) → k < n
    → (chip_at k (happened n (es ++ (sample s ∷ [])) ch)).settings.sleeping ≡ true
    → SwitchedDark (chip_at k (happened n es ch))

-- of a list that `write` accepted, calls of `play` and `scan` with a beginning of its samples, and a call of `play` with the next sample
abbrev pub DarkBeforeSleepOfCalls : Type 0
DarkBeforeSleepOfCalls =
    (n : ℕ) (ch : Chain) (ws : List ℕ)
    → AskedChain n ch
    → (out out' : List ℕ) (r : Result ℕ Refusal) (count : ℕ)
    → Writes n ws out r out'
    → r ≡ Ok count
    → (calls : List Call) (s : ℕ) (rest : List ℕ)
    → ScansBelow n (events_of calls)
    → blocks_of calls ++ (s ∷ rest) ≡ take count out'
    → (ch' : Chain) → Ran n ch calls ch'
    → (next : Handed Chain (Unit {0})) → handed next ≡ played_of n ch' (s ∷ [])
    → load_rises ch'.levels s ≡ true
    → (k : ℕ) → k < n
    → (chip_at k next.value).settings.sleeping ≡ true
    → SwitchedDark (chip_at k ch')

-- and there are such plays: all that is asked above holds of some list for one chip as `start` gives it, at its last sample
abbrev pub SomeSleep : Type 0
SomeSleep =
    (ws : List ℕ) × (es : List Event) × (s : ℕ)
    × Asked 1 start_chain ws
    × ScansBelow 1 es
    × (samples_in es ++ (s ∷ []) ≡ written 1 ws)
    × (load_rises (happened 1 es start_chain).levels s ≡ true)
    × ((chip_at 0 (happened 1 (es ++ (sample s ∷ [])) start_chain)).settings.sleeping ≡ true)
