-- The third demand, of buffers and calls: a list of words written by the writer's `write`, and its samples played by a
-- chain's `play` block by block, with calls of `scan` between. Of the three entries nothing is used but their contracts.
--     Call, events_of, blocks_of     a call of `play` or `scan`; the events of calls, and the samples of their blocks
--     Ran, AllDone                 results of calls as the contracts allow them; no call among them was refused
--     AsTold                       what calls leave
--     Demand3OfCalls               the statement
--     CallsRun                     the calls that it speaks of have results, so it is about something
-- Assumes nothing.
use Rattle.std.specs.Prelude.{◌≡◌, List, [], ◌∷◌, ◌++◌, map, ℕ, ◌<◌, take}
use Rattle.base.specs.Refusals.{IsDone, handed}
use Rattle.chip.specs.Record.{body_of}
use Rattle.chip.specs.History.{after}
use Rattle.chain.specs.declared.Chain.{Chain}
use Rattle.chain.specs.Entries.{chip_at, played_of, scanned_of}
use Rattle.writer.specs.Rows.{rows_of}
use Rattle.writer.specs.Written.{Writes}
use Rattle.demands.specs.Demand3.{AskedChain}
use Rattle.demands.specs.Events.{steps_for}
use Rattle.chain.specs.Events as Events
use Rattle.chain.specs.Events.{Event, sample, happened, ScansBelow}
use Rattle.std.specs.declared.result.Result.{Result}
use Rattle.base.specs.declared.Refusal.{Refusal}
use Rattle.base.specs.declared.Handed.{Handed}
use Rattle.chip.specs.declared.Recorded.{Recorded}
use Rattle.chip.specs.Entries.{handed_scan}
use Rattle.std.specs.declared.result.Result.TheVariants.{Ok}

-- ---- calls

-- a call of `play` with a block of samples, or of `scan` with a chip and eight bytes
pub data Call : Type 0 where
  play : List ℕ → Call
  scan : ℕ → List ℕ → Call

-- the events of calls: each sample of a block, and each scan
abbrev pub events_of : List Call → List Event
events_of [] = []
events_of (play block ∷ calls) = map sample block ++ events_of calls
events_of (scan k bytes ∷ calls) = Events.scan k bytes ∷ events_of calls

-- the blocks of the calls of `play`, joined in order
abbrev pub blocks_of : List Call → List ℕ
blocks_of [] = []
blocks_of (play block ∷ calls) = block ++ blocks_of calls
blocks_of (scan k bytes ∷ calls) = blocks_of calls

-- ---- results

-- results of calls, in order, each as the contract of its entry allows it for the chain that the call before handed back
pub data Ran (n : ℕ) : Chain → List Call → Chain → Type 0 where
  over : {ch : Chain} → Ran n ch [] ch
  played : {ch ch' : Chain} {block : List ℕ} {calls : List Call} (r : Handed Chain (Unit {0}))
      → handed r ≡ played_of n ch block
      → Ran n r.value calls ch'
      → Ran n ch (play block ∷ calls) ch'
  scanned : {ch ch' : Chain} {k : ℕ} {bytes : List ℕ} {calls : List Call} (r : Handed Chain Recorded)
      → handed_scan r ≡ scanned_of n ch k bytes
      → Ran n r.value calls ch'
      → Ran n ch (scan k bytes ∷ calls) ch'

-- no call was refused
abbrev pub AllDone : {n : ℕ} {ch ch' : Chain} {calls : List Call} → Ran n ch calls ch' → Type 0
AllDone over = Unit {0}
AllDone (played r contract next) = IsDone (handed r).told × AllDone next
AllDone (scanned r contract next) = IsDone (handed_scan r).told × AllDone next

-- ---- the statement

-- what calls leave, of a chain and a list of words: no call was refused, the last chain is what the events leave, and each
-- chip's settings, display and key record are as if its own commands and scans had been applied directly
pub record AsTold (n : ℕ) (ch : Chain) (ws : List ℕ) (calls : List Call) (ch' : Chain) (ran : Ran n ch calls ch') : Type 0 where
  pub answered : AllDone ran
  pub chain : ch' ≡ happened n (events_of calls) ch
  pub bodies : (k : ℕ) → k < n
      → body_of (chip_at k ch') ≡ body_of (after (steps_for k ch.levels (rows_of n ws) (events_of calls)) (chip_at k ch))

-- of calls: `write` told a number of samples, and the blocks played are a beginning of so many bytes of the buffer that it left
abbrev OfCalls : ((n : ℕ) → Chain → List ℕ → List Call → Type 0) → Type 0
OfCalls Holds =
    (n : ℕ) (ch : Chain) (ws : List ℕ)
    → AskedChain n ch
    → (out out' : List ℕ) (r : Result ℕ Refusal) (count : ℕ)
    → Writes n ws out r out'
    → r ≡ Ok count
    → (calls : List Call) (rest : List ℕ)
    → ScansBelow n (events_of calls)
    → blocks_of calls ++ rest ≡ take count out'
    → Holds n ch ws calls

abbrev pub Demand3OfCalls : Type 0
Demand3OfCalls = OfCalls (λ n ch ws calls. (ch' : Chain) (ran : Ran n ch calls ch') → AsTold n ch ws calls ch' ran)

-- such calls have results that the contracts allow
abbrev pub CallsRun : Type 0
CallsRun = OfCalls (λ n ch ws calls. (ch' : Chain) × Ran n ch calls ch')
