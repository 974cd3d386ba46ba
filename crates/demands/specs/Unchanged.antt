-- The first demand: "a refusal changes no chip and no byte of a lent buffer". Of every entry, by its contract alone: r and out' are any
-- result and any contents of the lent buffer that the contract allows.
--     HandsBack                 where a refusal is told, the value is the one given (zeros, where none was given)
--     Refuses                   where an answer by numbers tells a refusal, its other numbers are zeros
--     TextRefused               what a refused text leaves in the lent array
--     CountRefused              what a text that is refused leaves of a tally
--     TallyRefused              the same of a tally lent as numbers
--     RefusalsChangeNothing     the statement, entry by entry
-- Assumes nothing.
use Rattle.std.specs.Prelude.{◌≡◌, false, List, [], ◌∷◌, ◌++◌, ℕ, suc, ◌-◌, ◌≤◌, length, get_or, take, drop}
use Rattle.base.specs.Refusals.{refused, Outcome, tells, handed}
use Rattle.word.specs.declared.Command.{Command}
use Rattle.chip.specs.declared.Chip.{Chip}
use Rattle.chip.specs.Record.{blank}
use Rattle.chip.specs.Entries as One
use Rattle.chain.specs.declared.Chain.{Chain}
use Rattle.chain.specs.declared.finder.Found.{Found}
use Rattle.chain.specs.Blocks.{Blocks}
use Rattle.chain.specs.Finder.{handed_found, found_of, no_report}
use Rattle.chain.specs.Entries.{started_of, zero_chain, played_of, scanned_of, applied_of, segments_of, seen_of}
use Rattle.writer.specs.Written.{Writes}
use Rattle.capture.specs.declared.Report.{Report}
use Rattle.capture.specs.declared.Report.TheVariants.{Words, Screen}
use Rattle.capture.specs.declared.Replayed.{Replayed}
use Rattle.capture.specs.Reports.{refusal_line}
use Rattle.capture.specs.Replay.{Replays}
use Rattle.lines.specs.Lines.{lines_of}
use Rattle.tallies.specs.declared.Tally.{Tally}
use Rattle.tallies.specs.Counted.{counted_all, counted_of}
use Rattle.zhaqsumir.specs.Numbers.{decode_numbers, encode_numbers, find_numbers, WritesNumbers, ReplaysNumbers, chip_numbers, tally_in, TalliesNumbers}
use Rattle.zhaqsumir.specs.Panels.{StartsNumbers, BlocksNumbers, ScansNumbers, lit_numbers, sees_numbers}
use Rattle.demands.specs.Texts.{wrote_before}
use Rattle.std.specs.declared.result.Result.{Result}
use Rattle.base.specs.declared.Refusal.{Refusal}
use Rattle.base.specs.declared.Handed.{Handed}
use mathlib.Core.Bool.{Bool}
use Rattle.chip.specs.declared.Recorded.{Recorded}
use Rattle.chip.specs.Entries.{handed_scan}

-- where a refusal is told, the value is the one given (zeros, where none was given)
abbrev pub HandsBack : {S A : Type 0} → Outcome S A → S → Type 0
HandsBack o given = (number place : ℕ) → o.told ≡ refused number place → o.state ≡ given

-- where an answer by numbers tells a refusal, by a first number that isn't 0, its numbers after the first two are zeros
abbrev pub Refuses : List ℕ → List ℕ → Type 0
Refuses answer zeros = (number : ℕ) → get_or answer 0 0 ≡ suc number → drop 2 answer ≡ zeros

-- of a text that is refused at a line: at the array's front what earlier lines wrote, which stands, and the refusal's line; so many bytes
-- are counted, and the rest of the array is as it was
pub record TextRefused (what : Report) (text out out' : List ℕ) (number line bytes : ℕ) : Type 0 where
  pub front : take bytes out' ≡ wrote_before what text line ++ refusal_line number line
  pub counted : bytes ≡ length (wrote_before what text line ++ refusal_line number line)
  pub rest : drop bytes out' ≡ drop bytes out

-- of `capture::replay` and `capture::screen`
abbrev TextKept : Report → Type 0
TextKept what =
    (text out out' : List ℕ) (r : Replayed) → Replays what text out r out' → (number line : ℕ) → tells r.answer ≡ refused number line
    → TextRefused what text out out' number line r.bytes

-- what the lines of a text before a line leave of a tally
abbrev pub tally_before : Tally → List ℕ → ℕ → Tally
tally_before t text line = (counted_all t (take (line - 1) (lines_of text))).state.tally

-- of a text that is refused at a line: what earlier lines counted stands, and nothing else is counted; where the first line is refused, or
-- none is named, the tally is the one given
pub record CountRefused (t : Tally) (text : List ℕ) (line : ℕ) (t' : Tally) : Type 0 where
  pub earlier : t' ≡ tally_before t text line
  pub same : line ≤ 1 → t' ≡ t

-- the same of a tally lent as numbers, 32 of them for its chips
pub record TallyRefused (text cs ts : List ℕ) (n line : ℕ) (cs' ts' : List ℕ) (n' : ℕ) : Type 0 where
  pub chips : cs' ≡ chip_numbers (tally_before (tally_in cs ts n) text line).chips
  pub codes : ts' ≡ (tally_before (tally_in cs ts n) text line).codes
  pub largest : n' ≡ (tally_before (tally_in cs ts n) text line).largest
  pub same : line ≤ 1 → length cs ≡ 32 → (cs' ≡ cs) × (ts' ≡ ts) × (n' ≡ n)

-- a refusal changes no chip and no byte of a lent buffer
pub record RefusalsChangeNothing : Type 0 where
  -- one chip: the chip handed back is the one given; no segment is lit
  pub chip_apply : (c : Chip) (command : Command) (r : Handed Chip (Unit {0})) → handed r ≡ One.applied_of c command → HandsBack (handed r) c
  pub chip_sample : (c : Chip) (levels sample : ℕ) (r : Handed Chip (Unit {0})) → handed r ≡ One.sampled_of c levels sample → HandsBack (handed r) c
  pub chip_scan : (c : Chip) (bytes : List ℕ) (r : Handed Chip Recorded) → handed_scan r ≡ One.scanned_of c bytes → HandsBack (handed_scan r) c
  pub chip_segments : (c : Chip) (r : Handed (List ℕ) (Unit {0})) → handed r ≡ One.segments_of c → HandsBack (handed r) blank
  -- a chain: the chain handed back is the one given (`start`: zeros); no segment is lit, the host sees low, no rise and 0 passed
  pub start : (n : ℕ) (r : Handed Chain (Unit {0})) → handed r ≡ started_of n → HandsBack (handed r) zero_chain
  pub play : (n : ℕ) (ch : Chain) (samples : List ℕ) (r : Handed Chain (Unit {0})) → handed r ≡ played_of n ch samples → HandsBack (handed r) ch
  -- a block: also the lent list is as it was
  pub block : (n : ℕ) (ch : Chain) (samples list list' : List ℕ) (r : Handed Chain ℕ) → Blocks n ch samples list r list'
      → HandsBack (handed r) ch × ((number place : ℕ) → tells r.answer ≡ refused number place → list' ≡ list)
  pub scan : (n : ℕ) (ch : Chain) (k : ℕ) (bytes : List ℕ) (r : Handed Chain Recorded) → handed_scan r ≡ scanned_of n ch k bytes → HandsBack (handed_scan r) ch
  pub apply : (n : ℕ) (ch : Chain) (k : ℕ) (command : Command) (r : Handed Chain (Unit {0})) → handed r ≡ applied_of n ch k command → HandsBack (handed r) ch
  pub segments : (n : ℕ) (ch : Chain) (k : ℕ) (r : Handed (List ℕ) (Unit {0})) → handed r ≡ segments_of n ch k → HandsBack (handed r) blank
  pub host_sees : (n : ℕ) (ch : Chain) (r : Handed Bool (Unit {0})) → handed r ≡ seen_of n ch → HandsBack (handed r) false
  pub find : (levels : ℕ) (samples : List ℕ) (r : Found) → handed_found r ≡ found_of levels samples → HandsBack (handed_found r) no_report
  -- the writer: every byte of the lent buffer is as it was
  pub write : (n : ℕ) (ws out out' : List ℕ) (r : Result ℕ Refusal) → Writes n ws out r out' → (number place : ℕ) → tells r ≡ refused number place
      → out' ≡ out
  -- a text: what earlier lines wrote stands, the refusal's line follows, and the rest of the array is as it was
  pub replay : TextKept Words
  pub screen : TextKept Screen
  -- a tally: what earlier lines counted stands, and nothing else is counted
  pub count : (t : Tally) (text : List ℕ) (r : Handed Tally (Unit {0})) → handed r ≡ counted_of t text → (number line : ℕ) → tells r.answer ≡ refused number line
      → CountRefused t text line r.value
  -- the library's six functions: zeros after the refusal's number and place, and the lent buffers and the tally as above
  pub library_decode : (word : ℕ) (answer : List ℕ) → answer ≡ decode_numbers word → Refuses answer (0 ∷ 0 ∷ 0 ∷ 0 ∷ 0 ∷ 0 ∷ [])
  pub library_encode : (command answer : List ℕ) → answer ≡ encode_numbers command → Refuses answer (0 ∷ [])
  pub library_find : (levels : ℕ) (samples answer : List ℕ) → answer ≡ find_numbers levels samples → Refuses answer (0 ∷ 0 ∷ 0 ∷ [])
  pub library_write : (n : ℕ) (words out answer out' : List ℕ) → WritesNumbers n words out answer out'
      → Refuses answer (0 ∷ []) × ((number : ℕ) → get_or answer 0 0 ≡ suc number → out' ≡ out)
  pub library_replay : (text out answer out' : List ℕ) → ReplaysNumbers text out answer out' → (number : ℕ) → get_or answer 0 0 ≡ suc number
      → TextRefused Words text out out' (suc number) (get_or answer 1 0) (get_or answer 2 0)
  pub library_tally : (text cs ts : List ℕ) (n : ℕ) (answer cs' ts' : List ℕ) (n' : ℕ) → TalliesNumbers text cs ts n answer cs' ts' n' → (number : ℕ)
      → get_or answer 0 0 ≡ suc number → TallyRefused text cs ts n (get_or answer 1 0) cs' ts' n'
  -- a panel lent as numbers (C-11): its 202 numbers are those lent, and so is the list of a block
  pub library_start : (n : ℕ) (ns answer ns' : List ℕ) → StartsNumbers n ns answer ns' → (number : ℕ) → get_or answer 0 0 ≡ suc number → ns' ≡ ns
  pub library_block : (ns samples list answer ns' list' : List ℕ) → BlocksNumbers ns samples list answer ns' list'
      → Refuses answer (0 ∷ []) × ((number : ℕ) → get_or answer 0 0 ≡ suc number → (ns' ≡ ns) × (list' ≡ list))
  pub library_scan : (ns : List ℕ) (k : ℕ) (bytes answer ns' : List ℕ) → ScansNumbers ns k bytes answer ns'
      → Refuses answer (0 ∷ 0 ∷ []) × ((number : ℕ) → get_or answer 0 0 ≡ suc number → ns' ≡ ns)
  pub library_lit : (ns : List ℕ) (k : ℕ) (answer : List ℕ) → answer ≡ lit_numbers ns k → Refuses answer (0 ∷ 0 ∷ 0 ∷ 0 ∷ 0 ∷ 0 ∷ 0 ∷ 0 ∷ [])
  pub library_sees : (ns answer : List ℕ) → answer ≡ sees_numbers ns → Refuses answer (0 ∷ [])
