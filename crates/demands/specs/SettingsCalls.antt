-- Document 02, C-16, "One setting has one text", the rows and the capture text that sets a panel: of calls by their contracts alone, as in
-- specs/Whole.antt.
--     OneText             what `write` wrote, `read` reads as it was; what `read` took, `write` writes as it was
--     RowsHanded          the words that `rows` hands over
--     HandedSet           these words, written and played with any scans between, leave each chip with its settings
--     AgainSame           `again` prints a good text's own bytes
--     SetupSets           the capture text that `setup` prints, replayed, leaves each chip with its settings
--     FirstBytesPrint     `again` and `setup` of a text's first bytes print what they print of the whole
-- Assumes nothing.
use Rattle.std.specs.Prelude.{◌≡◌, List, ℕ, ◌+◌, ◌*◌, ◌≤◌, ◌<◌, length, take, drop}
use Rattle.base.specs.Refusals.{done, handed}
use Rattle.chip.specs.Record.{reset_chip}
use Rattle.chain.specs.declared.Chain.{Chain}
use Rattle.chain.specs.Chain.{most}
use Rattle.chain.specs.Entries.{start_chain, chip_at}
use Rattle.chain.specs.Events.{ScansBelow}
use Rattle.lines.specs.Lines.{lines_of}
use Rattle.capture.specs.declared.Replayed.{Replayed}
use Rattle.capture.specs.declared.Report.{Report}
use Rattle.capture.specs.Law.{chain_after}
use Rattle.capture.specs.Parts.{first_in}
use Rattle.capture.specs.Replay.{Replays}
use Rattle.writer.specs.Written as Writer
use Rattle.settings.specs.declared.Kiosk.{Kiosk}
use Rattle.settings.specs.OneText.{trimmed}
use Rattle.settings.specs.Printing.{kiosk_words, PrintsAgain, PrintsSetup}
use Rattle.settings.specs.Putting.{Writes, Fills}
use Rattle.settings.specs.Reading.{read_of}
use Rattle.demands.specs.Calls.{Call, events_of, blocks_of, Ran}
use Rattle.demands.specs.Demand3.{AskedChain}
use Rattle.demands.specs.Settings.{kept_at, AskedKiosk, EndsWith}
use Rattle.demands.specs.SettingsUnchanged.{AtFront}
use Rattle.std.specs.declared.result.Result.{Result}
use Rattle.std.specs.declared.result.Result.TheVariants.{Ok}
use Rattle.base.specs.declared.Refusal.{Refusal}
use Rattle.base.specs.declared.Handed as Back

-- ---- one setting has one text

-- settings that `read` handed back
pub record ReadBack (r : Back.Handed Kiosk (Unit {0})) (kiosk : Kiosk) : Type 0 where
  pub answer : r.answer ≡ (Ok tt)
  pub same : r.value ≡ kiosk

-- a text that `write` wrote
pub record WrittenBack (text out : List ℕ) (r : Result ℕ Refusal) (out' : List ℕ) : Type 0 where
  pub answer : r ≡ Ok (length text)
  pub front : AtFront text out out' (length text)

-- one setting has one text; the record of a panel always holds the most chips
pub record OneText : Type 0 where
  -- what was written reads back as it was: the chips from N on, which no text has, are zeros
  pub written_reads : (kiosk : Kiosk) → length kiosk.chips ≡ most
      → (out out' : List ℕ) (w : Result ℕ Refusal) (count : ℕ) → Writes kiosk out w out' → w ≡ Ok count
      → (r : Back.Handed Kiosk (Unit {0})) → handed r ≡ read_of (take count out')
      → ReadBack r (trimmed kiosk)
  -- what was read is written as it was, into any buffer that is long enough
  pub read_writes : (text : List ℕ) (r : Back.Handed Kiosk (Unit {0})) → handed r ≡ read_of text → r.answer ≡ (Ok tt)
      → (out out' : List ℕ) (w : Result ℕ Refusal) → Writes r.value out w out' → length text ≤ length out
      → WrittenBack text out w out'

-- ---- the rows

-- what `rows` handed over: the words of four rows, of settings such as `settings_set` asks for
pub record Handed (kiosk : Kiosk) (out out' : List ℕ) (count : ℕ) : Type 0 where
  pub asked : AskedKiosk kiosk
  pub words : AtFront (kiosk_words kiosk) out out' count
  pub many : count ≡ 4 * kiosk.n

abbrev pub RowsHanded : Type 0
RowsHanded =
    (kiosk : Kiosk) → length kiosk.chips ≡ most
    → (out out' : List ℕ) (r : Result ℕ Refusal) (count : ℕ) → Fills kiosk out r out' → r ≡ Ok count
    → Handed kiosk out out' count

-- a call of `rows`, one of `write` with the words that it handed over, and calls of `play` and `scan`
abbrev pub HandedSet : Type 0
HandedSet =
    (kiosk : Kiosk) → length kiosk.chips ≡ most
    → (words words' : List ℕ) (p : Result ℕ Refusal) (many : ℕ) → Fills kiosk words p words' → p ≡ Ok many
    → (ch : Chain) → AskedChain kiosk.n ch
    → (out out' : List ℕ) (r : Result ℕ Refusal) (count : ℕ) → Writer.Writes kiosk.n (take many words') out r out' → r ≡ Ok count
    → (calls : List Call) → ScansBelow kiosk.n (events_of calls) → blocks_of calls ≡ take count out'
    → (ch' : Chain) → Ran kiosk.n ch calls ch'
    → (k : ℕ) → k < kiosk.n
    → EndsWith (kept_at k kiosk) (chip_at k ch) (chip_at k ch')

-- ---- what a program prints

-- a text that is taken is printed byte for byte
abbrev pub AgainSame : Type 0
AgainSame = (text out out' : List ℕ) (r : Replayed) → PrintsAgain text out r out' → r.answer ≡ (Ok tt) → AtFront text out out' r.bytes

-- a capture text sets a panel to settings
pub record SetsTo (kiosk : Kiosk) (capture : List ℕ) : Type 0 where
  -- its first line gives N
  pub chips : first_in (lines_of capture) ≡ done kiosk.n
  -- `capture::replay` and `capture::screen` take it to its end
  pub taken : (what : Report) (out out' : List ℕ) (r : Replayed) → Replays what capture out r out' → r.answer ≡ (Ok tt)
  -- and after its lines each chip of the panel that they started has its settings, awake, and its digits are blank
  pub sets : (what : Report) (k : ℕ) → k < kiosk.n
      → EndsWith (kept_at k kiosk) reset_chip (chip_at k (chain_after what kiosk.n start_chain (drop 1 (lines_of capture))))

-- the text that `setup` prints where it refuses nothing
abbrev pub SetupSets : Type 0
SetupSets =
    (text out out' : List ℕ) (r : Replayed) → PrintsSetup text out r out' → r.answer ≡ (Ok tt)
    → SetsTo (read_of text).state (take r.bytes out')

-- the bytes of the longest text, and one more, are enough to print what the whole would
pub record FirstBytesPrint : Type 0 where
  pub again : (text : List ℕ) (m : ℕ) → 7 + 13 * most + 1 ≤ m → (out out' : List ℕ) (r : Replayed) → PrintsAgain (take m text) out r out'
      → PrintsAgain text out r out'
  pub setup : (text : List ℕ) (m : ℕ) → 7 + 13 * most + 1 ≤ m → (out out' : List ℕ) (r : Replayed) → PrintsSetup (take m text) out r out'
      → PrintsSetup text out r out'
