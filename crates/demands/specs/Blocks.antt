-- Document 02, C-11: a recording that arrives in blocks. Calls of a chain's `block`, each with a block of samples and a list that is lent
-- for the places of its LOAD rises, with calls of `scan` between. Of the entries nothing is used but their contracts.
--     Sent, calls_of, samples_of         a call of `block` or `scan`; the same calls with `play`; the samples of the blocks, joined
--     Sends, NoneRefused               results of calls as the contracts allow them; no call among them was refused
--     LongEnough, BlocksOnly           each list has room for its block's rises; there is no scan among the calls
--     places_in                         the places that calls wrote, earlier blocks' lengths added, joined
--     Among, Climbs, RisesListed       what the places of a block are: all its LOAD rises, each once, in rising order
--     CutAlike, CutLaw                 blocks beside one call over the whole
--     RefusedAlone, accepted_in         a refused call changed nothing; the samples of the accepted blocks, joined
--     CutException                     what any blocks and lists leave
--     Demand3Blocks                    the third demand of blocks
--     SentRun                          the calls that these speak of have results
-- Assumes nothing.
use Rattle.std.specs.Prelude.{◌≡◌, ◌⊎◌, ◌↔◌, List, [], ◌∷◌, ◌++◌, map, ℕ, suc, ◌+◌, ◌≤◌, ◌<◌, T, length, take}
use Rattle.base.specs.Below.{AllBelow}
use Rattle.base.specs.Refusals.{IsDone, tells}
use Rattle.chain.specs.declared.Chain.{Chain}
use Rattle.chain.specs.Chain.{chip_count, valid_chain, played}
use Rattle.chain.specs.Entries.{scanned_of}
use Rattle.chain.specs.Events as Events
use Rattle.chain.specs.Blocks.{rises_from, rises_in, Blocks}
use Rattle.writer.specs.Written.{Writes}
use Rattle.demands.specs.Demand3.{AskedChain}
use Rattle.demands.specs.Calls.{Call, Ran, events_of, blocks_of}
use Rattle.demands.specs.Calls as Calls
use Rattle.demands.specs.Whole.{RisesAt, WholePlay}
use Rattle.std.specs.declared.result.Result.{Result}
use Rattle.std.specs.declared.result.Result.TheVariants.{Ok, Err}
use Rattle.base.specs.declared.Refusal.{Refusal}
use Rattle.base.specs.declared.Handed.{Handed}
use Rattle.chip.specs.declared.Recorded.{Recorded}
use Rattle.chip.specs.Entries.{handed_scan}

-- ---- the places of one block

-- a number stands in a list
abbrev pub Among : ℕ → List ℕ → Type 0
Among p [] = ⊥
Among p (x ∷ xs) = (x ≡ p) ⊎ Among p xs

-- from some number on, each is above the one before it
abbrev pub Climbs : ℕ → List ℕ → Type 0
Climbs least [] = Unit {0}
Climbs least (x ∷ xs) = (least ≤ x) × Climbs (suc x) xs

-- the places at which LOAD rises, given the levels before, and no others; each once, in rising order
abbrev pub RisesListed : Type 0
RisesListed =
    (was : ℕ) (samples : List ℕ)
    → ((p : ℕ) → Among p (rises_from 0 was samples) ↔ ((p < length samples) × RisesAt was samples p)) × Climbs 0 (rises_from 0 was samples)

-- ---- calls and results

-- a call of `block` with samples and a list, or of `scan` with a chip and eight bytes
pub data Sent : Type 0 where
  block : List ℕ → List ℕ → Sent
  scan : ℕ → List ℕ → Sent

-- the same calls, with `play` in the place of `block`
abbrev pub calls_of : List Sent → List Call
calls_of [] = []
calls_of (block samples list ∷ sent) = Calls.play samples ∷ calls_of sent
calls_of (scan k bytes ∷ sent) = Calls.scan k bytes ∷ calls_of sent

-- the recording: the samples of the blocks, joined in order
abbrev pub samples_of : List Sent → List ℕ
samples_of sent = blocks_of (calls_of sent)

-- results of calls, in order, each as the contract of its entry allows it for the record that the call before handed back
pub data Sends (n : ℕ) : Chain → List Sent → Chain → Type 0 where
  over : {ch : Chain} → Sends n ch [] ch
  called : {ch ch' : Chain} {samples list : List ℕ} {sent : List Sent} (r : Handed Chain ℕ) (list' : List ℕ)
      → Blocks n ch samples list r list'
      → Sends n r.value sent ch'
      → Sends n ch (block samples list ∷ sent) ch'
  scanned : {ch ch' : Chain} {k : ℕ} {bytes : List ℕ} {sent : List Sent} (r : Handed Chain Recorded)
      → handed_scan r ≡ scanned_of n ch k bytes
      → Sends n r.value sent ch'
      → Sends n ch (scan k bytes ∷ sent) ch'

-- no call was refused
abbrev pub NoneRefused : {n : ℕ} {ch ch' : Chain} {sent : List Sent} → Sends n ch sent ch' → Type 0
NoneRefused over = Unit {0}
NoneRefused (called r list' contract next) = IsDone (tells r.answer) × NoneRefused next
NoneRefused (scanned r contract next) = IsDone (handed_scan r).told × NoneRefused next

-- ---- cutting a recording

-- each list has room for its block's rises
abbrev pub LongEnough : ℕ → Chain → List Sent → Type 0
LongEnough n ch [] = Unit {0}
LongEnough n ch (block samples list ∷ sent) = (length (rises_in ch samples) ≤ length list) × LongEnough n (played n samples ch) sent
LongEnough n ch (scan k bytes ∷ sent) = LongEnough n (Events.happens n (Events.scan k bytes) ch) sent

-- there is no scan among the calls
abbrev pub BlocksOnly : List Sent → Type 0
BlocksOnly [] = Unit {0}
BlocksOnly (block samples list ∷ sent) = BlocksOnly sent
BlocksOnly (scan k bytes ∷ sent) = ⊥

-- the places that a call wrote: as many at the front of its list as it counted; a refused one wrote none
abbrev pub places_of : Result ℕ Refusal → List ℕ → List ℕ
places_of (Ok count) list = take count list
places_of (Err e) list = []

-- those of all calls, the lengths of the blocks before added, joined; so many samples came before the first
abbrev pub places_in : {n : ℕ} {ch ch' : Chain} {sent : List Sent} → ℕ → Sends n ch sent ch' → List ℕ
places_in before over = []
places_in before (called {samples = samples} r list' contract next) = map (λ p. before + p) (places_of r.answer list') ++ places_in (before + length samples) next
places_in before (scanned r contract next) = places_in before next

-- blocks, and one call over the whole: neither is refused, the record is the same and so are the places
pub record CutAlike {n : ℕ} {ch ch' : Chain} {sent : List Sent} (ran : Sends n ch sent ch') (r : Handed Chain ℕ) (list' : List ℕ) : Type 0 where
  pub accepted : NoneRefused ran
  pub whole : IsDone (tells r.answer)
  pub ends : ch' ≡ r.value
  pub places : places_in 0 ran ≡ places_of r.answer list'

-- blocks of any lengths, empty ones too, all samples at most 7, each list long enough
abbrev pub CutLaw : Type 0
CutLaw =
    (n : ℕ) (ch : Chain)
    → T (chip_count n)
    → T (valid_chain n ch)
    → (sent : List Sent)
    → BlocksOnly sent
    → AllBelow 8 (samples_of sent)
    → LongEnough n ch sent
    → (ch' : Chain) (ran : Sends n ch sent ch')
    → (list list' : List ℕ) (r : Handed Chain ℕ)
    → Blocks n ch (samples_of sent) list r list'
    → length (rises_in ch (samples_of sent)) ≤ length list
    → CutAlike ran r list'

-- ---- the exception

-- each call of `block` was accepted, or left the record and its list as they were
abbrev pub RefusedAlone : {n : ℕ} {ch ch' : Chain} {sent : List Sent} → Sends n ch sent ch' → Type 0
RefusedAlone over = Unit {0}
RefusedAlone (called {ch = ch} {list = list} r list' contract next) = (IsDone (tells r.answer) ⊎ ((r.value ≡ ch) × (list' ≡ list))) × RefusedAlone next
RefusedAlone (scanned r contract next) = RefusedAlone next

-- the samples of a call that was accepted
abbrev pub accepted_of : Result ℕ Refusal → List ℕ → List ℕ
accepted_of (Ok count) samples = samples
accepted_of (Err e) samples = []

-- those of all accepted calls, joined
abbrev pub accepted_in : {n : ℕ} {ch ch' : Chain} {sent : List Sent} → Sends n ch sent ch' → List ℕ
accepted_in over = []
accepted_in (called {samples = samples} r list' contract next) = accepted_of r.answer samples ++ accepted_in next
accepted_in (scanned r contract next) = accepted_in next

-- any blocks and lists, any N and record: a refused block is refused alone, and the last record is the play of the accepted ones joined
abbrev pub CutException : Type 0
CutException =
    (n : ℕ) (ch : Chain) (sent : List Sent) → BlocksOnly sent → (ch' : Chain) (ran : Sends n ch sent ch')
    → RefusedAlone ran × (ch' ≡ played n (accepted_in ran) ch)

-- ---- the third demand

-- a list of words written by `write`, its samples played by `block` wherever they are cut, with calls of `scan` between: no call is
-- refused, and what is left is what the same calls with `play` leave
abbrev pub Demand3Blocks : Type 0
Demand3Blocks =
    (n : ℕ) (ch : Chain) (ws : List ℕ)
    → AskedChain n ch
    → (out out' : List ℕ) (r : Result ℕ Refusal) (count : ℕ)
    → Writes n ws out r out'
    → r ≡ Ok count
    → (sent : List Sent)
    → Events.ScansBelow n (events_of (calls_of sent))
    → samples_of sent ≡ take count out'
    → LongEnough n ch sent
    → (ch' : Chain) (ran : Sends n ch sent ch')
    → NoneRefused ran × ((plays : Ran n ch (calls_of sent) ch') × WholePlay n ch ws (calls_of sent) ch' plays)

-- any calls have results that the contracts allow
abbrev pub SentRun : Type 0
SentRun = (n : ℕ) (ch : Chain) (sent : List Sent) → (ch' : Chain) × Sends n ch sent ch'
