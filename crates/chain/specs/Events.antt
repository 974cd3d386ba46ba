-- Samples with key scans between them: what they do to a chain, and what of it happens to one chip: its history, and what its scans record.
-- Assumes nothing.
use Rattle.std.specs.Prelude.{ℕ, ◌<◌, List, [], ◌∷◌, ◌++◌, eqb}
use Rattle.base.specs.Pick.{pick}
use Rattle.base.specs.Refusals.{Told, done, refused}
use Rattle.word.specs.declared.Command.{Command}
use Rattle.word.specs.declared.Command.TheVariants.{NoOperation}
use Rattle.word.specs.Words.{decoded_of}
use Rattle.chip.specs.Edges.{load_rises}
use Rattle.chip.specs.Scans.{Recording, nothing, key_code, over_unread, release_noted, scanned, recorded}
use Rattle.chip.specs.History.{Step, told}
use Rattle.chip.specs.History as History
use Rattle.chain.specs.declared.Chain.{Chain}
use Rattle.chain.specs.Chain.{stepped_chain}
use Rattle.chain.specs.Entries.{chip_at, with_chip}

-- ---- what happens to a chain

-- a sample of the wires, or a scan, which names a chip and gives 8 bytes
pub data Event : Type 0 where
  sample : ℕ → Event
  scan : ℕ → List ℕ → Event

-- one event, as the entries `play` and `scan` of a chain do it
abbrev pub happens : ℕ → Event → Chain → Chain
happens n (sample s) ch = stepped_chain n s ch
happens n (scan k bytes) ch = with_chip k (scanned bytes (chip_at k ch)) ch

-- events one after another
abbrev pub happened : ℕ → List Event → Chain → Chain
happened n [] ch = ch
happened n (e ∷ es) ch = happened n es (happens n e ch)

-- the samples among the events, in order
abbrev pub samples_in : List Event → List ℕ
samples_in [] = []
samples_in (sample s ∷ es) = s ∷ samples_in es
samples_in (scan k bytes ∷ es) = samples_in es

-- every scan's chip is below n
abbrev pub ScansBelow : ℕ → List Event → Type 0
ScansBelow n [] = Unit {0}
ScansBelow n (sample s ∷ es) = ScansBelow n es
ScansBelow n (scan k bytes ∷ es) = (k < n) × ScansBelow n es

-- ---- what happens to one chip

-- a scan of chip j is a step of that chip alone
abbrev pub scan_at : ℕ → ℕ → List ℕ → List Step
scan_at k j bytes = pick (eqb j k) (History.scan bytes ∷ []) []

-- what a LOAD rise makes a chip obey; an unlisted word does what no operation does
abbrev pub obeyed : Told Command → Command
obeyed (done command) = command
obeyed (refused number place) = NoOperation

-- what one event is for chip k: at a LOAD rise the command that is then in its register, a scan of its own; else nothing
abbrev pub steps_at : ℕ → ℕ → Event → Chain → List Step
steps_at k n (sample s) ch =
    pick (load_rises ch.levels s) (told (obeyed (decoded_of (chip_at k (stepped_chain n s ch)).line.register)) ∷ []) []
steps_at k n (scan j bytes) ch = scan_at k j bytes

-- what happens to chip k, whatever is played and scanned
abbrev pub history_of : ℕ → ℕ → List Event → Chain → List Step
history_of k n [] ch = []
history_of k n (e ∷ es) ch = steps_at k n e ch ++ history_of k n es (happens n e ch)

-- what one event records on chip k: what a scan of its own does
abbrev pub records_at : ℕ → Event → Chain → List Recording
records_at k (sample s) ch = []
records_at k (scan j bytes) ch = pick (eqb j k) (recorded bytes (chip_at j ch) ∷ []) []

-- what the scans of chip k recorded, in order
abbrev pub records_in : ℕ → ℕ → List Event → Chain → List Recording
records_in k n [] ch = []
records_in k n (e ∷ es) ch = records_at k e ch ++ records_in k n es (happens n e ch)

-- the codes among them, whatever they are, over unread ones or not: all that the till can get of chip k
abbrev pub codes_in : List Recording → List ℕ
codes_in [] = []
codes_in (nothing ∷ rest) = codes_in rest
codes_in (key_code code ∷ rest) = code ∷ codes_in rest
codes_in (over_unread code ∷ rest) = code ∷ codes_in rest
codes_in (release_noted ∷ rest) = codes_in rest
