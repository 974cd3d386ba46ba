-- What the till read, by what `watch` writes of a raw stream with DOUT: its lines 15 to 18 are those of crate reads' looks, and where the
-- recorded DOUT is what the host sees, they say what the last chip did. Of the entries nothing is used but their contracts.
--     placed_items, written_by     items of a raw stream with their offsets, and what they write
--     NotesWritten               what is written of any reads is each item's note, and then what the item writes without DOUT
--     CodesRead                  the codes of the lines 16 are those that the chip held at its read words
--     raw_samples                 the items of a raw stream that has a history's samples alone
--     ProbeReads                 both, of a probe's recording of any history, as `watch` reads it
-- Assumes nothing.
use Rattle.std.specs.Prelude.{◌≡◌, true, false, List, [], ◌∷◌, ◌++◌, ℕ, ◌-◌, ◌%◌}
use Rattle.chain.specs.declared.Chain.{Chain}
use Rattle.chain.specs.Chain.{chip_count}
use Rattle.chain.specs.Entries.{start_chain, chip_at}
use Rattle.capture.specs.declared.Report.{Report}
use Rattle.capture.specs.Replay.{rises_in}
use Rattle.capture.specs.Reports.{at_scan}
use Rattle.reads.specs.declared.Reader.{Reader}
use Rattle.reads.specs.Notes.{note_line}
use Rattle.reads.specs.Reads.{last_chip, start_reader}
use Rattle.reads.specs.Till as Till
use Rattle.reads.specs.Till.{chain_after, seen_after, note_of, notes_of, codes_told, is_cut, is_differs, some_note, runs, held_at_reads, Throughout, Seen, HasDout, LetsEnd, chain_after_all, Played, recording_of, unscanned, KeysAtLast}
use Rattle.streams.specs.declared.Stream.{Stream}
use Rattle.streams.specs.Raw.{Item, sample, scanned}
use Rattle.streams.specs.Same.{AllGiven, past_bytes, raw_of, raw_stream}
use Rattle.streams.specs.Steps.{start_stream}
use Rattle.demands.specs.Watching.{Watches}

-- an item at an offset
abbrev pub placed_item : ℕ → Item → Till.Item
placed_item offset (sample b) = Till.sample offset b
placed_item offset (scanned k bytes) = Till.scan k bytes

-- items from an offset on, each with its own
unfoldable pub placed_items : ℕ → List Item → List Till.Item
placed_items offset [] = []
placed_items offset (g ∷ gs) = placed_item offset g ∷ placed_items (past_bytes offset (raw_of g)) gs

-- what an item writes without DOUT: the lines of its LOAD rise, or of its scan
abbrev pub edge_lines : Report → ℕ → Till.Item → Chain → List ℕ
edge_lines what n (Till.sample offset b) ch = rises_in what n (b % 8 ∷ []) ch
edge_lines what n (Till.scan k bytes) ch = at_scan what k bytes (chip_at k ch)

-- what items write: of each the line of its note, and then those of the item itself
unfoldable pub written_by : Report → ℕ → List Till.Item → Chain → Reader → List ℕ
written_by what n [] ch r = []
written_by what n (x ∷ items) ch r =
    note_line (n - 1) (note_of n x ch r) ++ (edge_lines what n x ch ++ written_by what n items (chain_after n x ch) (seen_after n x ch r))

-- whatever the reads of a stream of such items are, this is written
abbrev pub NotesWritten : Type 0
NotesWritten = (what : Report) (s : Stream) → s ≡ start_stream → (n : ℕ) → chip_count n ≡ true → (gs : List Item) → AllGiven n gs
    → (written : List ℕ) → Watches what s (raw_stream n gs) written
    → written ≡ written_by what n (placed_items 3 gs) start_chain start_reader

-- of a chain as `watch` starts it, where each sample has a recorded DOUT that is what the host sees, and every readout is let end: the codes are
-- those held at the read words, each once, in order; no readout is told as cut, and DOUT differs nowhere
abbrev pub CodesRead : Type 0
CodesRead = (n : ℕ) → chip_count n ≡ true → (gs : List Item) →
    let items = placed_items 3 gs in
    Throughout n HasDout items start_chain start_reader → Throughout n (Seen n) items start_chain start_reader → Throughout n (LetsEnd n) items start_chain start_reader
    → runs (last_chip n (chain_after_all n items start_chain)) ≡ false
    → (codes_told (notes_of n items start_chain start_reader) ≡ held_at_reads n items start_chain)
    × (some_note is_cut (notes_of n items start_chain start_reader) ≡ false)
    × (some_note is_differs (notes_of n items start_chain start_reader) ≡ false)

-- a history's samples as items of a raw stream; its scans are left out
unfoldable pub raw_samples : List Till.Item → List Item
raw_samples [] = []
raw_samples (Till.sample offset b ∷ items) = sample b ∷ raw_samples items
raw_samples (Till.scan k bytes ∷ items) = raw_samples items

-- of any history of samples and scans, recorded by a probe: whatever the reads of the raw stream of the recording's samples are, the notes of
-- those samples are written; and where in the history no chip but the last has KEYB on, and every readout is let end, the codes of the notes are
-- those held at the read words, each once, in order; no readout is told as cut, and DOUT differs nowhere
abbrev pub ProbeReads : Type 0
ProbeReads = (n : ℕ) → chip_count n ≡ true → (history : List Played) →
    let whole = recording_of n 3 history start_chain in
    let probed = unscanned whole in
    ((what : Report) (s : Stream) → s ≡ start_stream → (written : List ℕ) → Watches what s (raw_stream n (raw_samples probed)) written
    → written ≡ written_by what n probed start_chain start_reader)
    × (Throughout n (KeysAtLast n) whole start_chain start_reader → Throughout n (LetsEnd n) whole start_chain start_reader
    → runs (last_chip n (chain_after_all n whole start_chain)) ≡ false
    → (codes_told (notes_of n probed start_chain start_reader) ≡ held_at_reads n whole start_chain)
    × (some_note is_cut (notes_of n probed start_chain start_reader) ≡ false)
    × (some_note is_differs (notes_of n probed start_chain start_reader) ≡ false))
