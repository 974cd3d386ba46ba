-- A panel as a probe records it with DOUT: a history of samples and scans, what the looks tell of it, and what the last chip did. That these
-- agree is proved: proofs/Trusted.antt. No contract cites these.
-- Assumes nothing.
use Rattle.std.specs.Prelude.{◌≡◌, ℕ, ◌+◌, ◌-◌, ◌*◌, ◌/◌, ◌%◌, Bool, true, false, not, ◌&&◌, ◌||◌, List, [], ◌∷◌, ◌++◌, ◌==◌}
use Rattle.base.specs.Bits.{bit_value}
use Rattle.base.specs.Pick.{pick}
use Rattle.base.specs.Refusals.{Told, done, refused}
use Rattle.word.specs.declared.Command.{Command}
use Rattle.word.specs.declared.Command.TheVariants.{NoOperation, BarLevel, SegmentClear, SegmentSet, Reset, Sleep, ShiftLeft, ShiftRight, RotateLeft, RotateRight, CustomCharacter, SystemParameters, DisplayParameters, BlinkByte, ReadKey, LoadDigit}
use Rattle.word.specs.Words.{decoded_of}
use Rattle.chip.specs.declared.Chip.{Chip}
use Rattle.chip.specs.Commands.{dout}
use Rattle.chip.specs.Edges.{dclk_falls, load_rises}
use Rattle.chip.specs.Scans.{scanned}
use Rattle.chain.specs.declared.Chain.{Chain}
use Rattle.chain.specs.Chain.{stepped_chain, KeypadLast}
use Rattle.chain.specs.Entries.{chip_at, with_chip}
use Rattle.reads.specs.declared.Dout.{Dout}
use Rattle.reads.specs.declared.Dout.TheVariants.{NotYet, Missing, Low, High}
use Rattle.reads.specs.declared.Note.{Note}
use Rattle.reads.specs.declared.Note.TheVariants.{Nothing, Code, Cut, Interrupt, Differs}
use Rattle.reads.specs.declared.Reader.{Reader}
use Rattle.reads.specs.Reads.{is_edge, last_chip, look_at, reader_after, next_offset}

-- ---- histories

-- one thing that happens: a sample at an offset, by its byte; or a scan of a chip, with eight bytes
pub data Item : Type 0 where
  sample : ℕ → ℕ → Item
  scan : ℕ → List ℕ → Item

-- the chain after it
abbrev pub chain_after : ℕ → Item → Chain → Chain
chain_after n (sample offset b) ch = stepped_chain n (b % 8) ch
chain_after n (scan k bytes) ch = with_chip k (scanned bytes (chip_at k ch)) ch

-- the reader after it
abbrev pub seen_after : ℕ → Item → Chain → Reader → Reader
seen_after n (sample offset b) ch r = reader_after n offset b ch r
seen_after n (scan k bytes) ch r = r

-- what its look tells
abbrev pub note_of : ℕ → Item → Chain → Reader → Note
note_of n (sample offset b) ch r = (look_at n b ch r).note
note_of n (scan k bytes) ch r = Nothing

-- what the looks of a history tell, in order
unfoldable pub notes_of : ℕ → List Item → Chain → Reader → List Note
notes_of n [] ch r = []
notes_of n (x ∷ items) ch r = note_of n x ch r ∷ notes_of n items (chain_after n x ch) (seen_after n x ch r)

-- ---- what the notes say

-- the codes that were read, in order: those of the lines 16
abbrev pub codes_told : List Note → List ℕ
codes_told [] = []
codes_told (Nothing ∷ notes) = codes_told notes
codes_told (Code code ∷ notes) = code ∷ codes_told notes
codes_told (Cut ∷ notes) = codes_told notes
codes_told (Interrupt ∷ notes) = codes_told notes
codes_told (Differs offset ∷ notes) = codes_told notes

-- a line 17
abbrev pub is_cut : Note → Bool
is_cut Nothing = false
is_cut (Code code) = false
is_cut Cut = true
is_cut Interrupt = false
is_cut (Differs offset) = false

-- a line 18
abbrev pub is_interrupt : Note → Bool
is_interrupt Nothing = false
is_interrupt (Code code) = false
is_interrupt Cut = false
is_interrupt Interrupt = true
is_interrupt (Differs offset) = false

-- a line 15
abbrev pub is_differs : Note → Bool
is_differs Nothing = false
is_differs (Code code) = false
is_differs Cut = false
is_differs Interrupt = false
is_differs (Differs offset) = true

-- some note is such a one
abbrev pub some_note : (Note → Bool) → List Note → Bool
some_note is [] = false
some_note is (note ∷ notes) = is note || some_note is notes

-- ---- what the last chip did

-- a command that reads the key
abbrev pub is_read_key : Told Command → Bool
is_read_key (done NoOperation) = false
is_read_key (done (BarLevel level)) = false
is_read_key (done (SegmentClear addr)) = false
is_read_key (done (SegmentSet addr)) = false
is_read_key (done Reset) = false
is_read_key (done Sleep) = false
is_read_key (done ShiftLeft) = false
is_read_key (done ShiftRight) = false
is_read_key (done RotateLeft) = false
is_read_key (done RotateRight) = false
is_read_key (done (CustomCharacter shape)) = false
is_read_key (done (SystemParameters s)) = false
is_read_key (done (DisplayParameters d)) = false
is_read_key (done (BlinkByte byte)) = false
is_read_key (done ReadKey) = true
is_read_key (done (LoadDigit dig byte)) = false
is_read_key (refused number place) = false

-- KEYB is on
abbrev pub keypad_on : Chip → Bool
keypad_on c = c.settings.system.keyb

-- a readout runs
abbrev pub runs : Chip → Bool
runs c = keypad_on c && not (c.line.readout.left == 0)

-- a sample is a read word of the last chip: LOAD rises, KEYB is on, and the word that is obeyed reads the key; the register after the rise
-- is that word
unfoldable pub read_word : ℕ → ℕ → Chain → Bool
read_word n b ch =
    load_rises ch.levels (b % 8) && keypad_on (last_chip n ch) && is_read_key (decoded_of (last_chip n (stepped_chain n (b % 8) ch)).line.register)

-- the code that the chip held, where an item is a read word
abbrev pub held_at : ℕ → Item → Chain → List ℕ
held_at n (sample offset b) ch = pick (read_word n b ch) ((last_chip n ch).keys.code ∷ []) []
held_at n (scan k bytes) ch = []

-- the codes that it held at its read words, in order
unfoldable pub held_at_reads : ℕ → List Item → Chain → List ℕ
held_at_reads n [] ch = []
held_at_reads n (x ∷ items) ch = held_at n x ch ++ held_at_reads n items (chain_after n x ch)

-- an interrupt stands at an edge outside readouts
abbrev pub interrupt_at : ℕ → Item → Chain → Bool
interrupt_at n (sample offset b) ch =
    is_edge ch.levels (b % 8) && keypad_on (last_chip n ch) && (last_chip n ch).line.readout.left == 0 && (last_chip n ch).keys.interrupt
interrupt_at n (scan k bytes) ch = false

-- at some edge of a history
unfoldable pub some_interrupt : ℕ → List Item → Chain → Bool
some_interrupt n [] ch = false
some_interrupt n (x ∷ items) ch = interrupt_at n x ch || some_interrupt n items (chain_after n x ch)

-- ---- premises

-- such a thing holds of each item, with the chain and the reader before it
unfoldable pub Throughout : ℕ → (Item → Chain → Reader → Type 0) → List Item → Chain → Reader → Type 0
Throughout n P [] ch r = Unit {0}
Throughout n P (x ∷ items) ch r = P x ch r × Throughout n P items (chain_after n x ch) (seen_after n x ch r)

-- a level was recorded
abbrev pub was_recorded : Dout → Bool
was_recorded NotYet = false
was_recorded Missing = false
was_recorded Low = true
was_recorded High = true

-- a settled level is this one, where it was recorded
abbrev pub SettledIs : Dout → Bool → Type 0
SettledIs NotYet d = Unit {0}
SettledIs Missing d = Unit {0}
SettledIs Low d = d ≡ false
SettledIs High d = d ≡ true

-- the recorded DOUT is what the model's host sees: at each edge the settled level is the last chip's DOUT there
abbrev pub Seen : ℕ → Item → Chain → Reader → Type 0
Seen n (sample offset b) ch r = is_edge ch.levels (b % 8) ≡ true → SettledIs r.dout (dout (last_chip n ch))
Seen n (scan k bytes) ch r = Unit {0}

-- each sample has a recorded DOUT
abbrev pub HasDout : Item → Chain → Reader → Type 0
HasDout (sample offset b) ch r = b / 16 ≡ 1
HasDout (scan k bytes) ch r = Unit {0}

-- the bits left after the sample's fall of DCLK, if it has one
abbrev pub left_at : ℕ → ℕ → Chip → ℕ
left_at was now c = pick (dclk_falls was now) (c.line.readout.left - 1) c.line.readout.left

-- the clocking lets a readout end: no LOAD rise comes while bits are left
abbrev pub LetsEnd : ℕ → Item → Chain → Reader → Type 0
LetsEnd n (sample offset b) ch r =
    (load_rises ch.levels (b % 8) && keypad_on (last_chip n ch) && not (left_at ch.levels (b % 8) (last_chip n ch) == 0)) ≡ false
LetsEnd n (scan k bytes) ch r = Unit {0}

-- the chain after a history
unfoldable pub chain_after_all : ℕ → List Item → Chain → Chain
chain_after_all n [] ch = ch
chain_after_all n (x ∷ items) ch = chain_after_all n items (chain_after n x ch)

-- the reader after a history
unfoldable pub seen_after_all : ℕ → List Item → Chain → Reader → Reader
seen_after_all n [] ch r = r
seen_after_all n (x ∷ items) ch r = seen_after_all n items (chain_after n x ch) (seen_after n x ch r)

-- ---- a recording made of the model

-- a history without DOUT: a sample's three levels, or a scan of a chip
pub data Played : Type 0 where
  levels : ℕ → Played
  scans : ℕ → List ℕ → Played

-- a sample with DOUT as the host sees it
abbrev pub shown_byte : ℕ → ℕ → Chain → ℕ
shown_byte n v ch = 0x10 + 8 * bit_value (dout (last_chip n ch)) + v % 8

-- recorded: each sample with the DOUT that the host sees after it, and after each scan a sample with the levels as they are, since a sample at
-- which DOUT changes is kept too. The samples have consecutive offsets, as in a raw stream without scans
unfoldable pub recording_of : ℕ → ℕ → List Played → Chain → List Item
recording_of n offset [] ch = []
recording_of n offset (levels v ∷ more) ch =
    let next = stepped_chain n (v % 8) ch in
    sample offset (shown_byte n v next) ∷ recording_of n (next_offset offset) more next
recording_of n offset (scans k bytes ∷ more) ch =
    let next = with_chip k (scanned bytes (chip_at k ch)) ch in
    scan k bytes ∷ sample offset (shown_byte n ch.levels next) ∷ recording_of n (next_offset offset) more (stepped_chain n (ch.levels % 8) next)

-- the panel after a history, played as it is
unfoldable pub played_after : ℕ → List Played → Chain → Chain
played_after n [] ch = ch
played_after n (levels v ∷ more) ch = played_after n more (stepped_chain n (v % 8) ch)
played_after n (scans k bytes ∷ more) ch = played_after n more (with_chip k (scanned bytes (chip_at k ch)) ch)

-- ---- what a probe sees

-- a probe sees the wires and no contacts: a history without its scans
unfoldable pub unscanned : List Item → List Item
unscanned [] = []
unscanned (sample offset b ∷ items) = sample offset b ∷ unscanned items
unscanned (scan k bytes ∷ items) = unscanned items

-- what the looks before a history's samples tell, in order, a note for each sample
unfoldable pub samples_notes : ℕ → List Item → Chain → Reader → List Note
samples_notes n [] ch r = []
samples_notes n (sample offset b ∷ items) ch r =
    let x = sample offset b in
    note_of n x ch r ∷ samples_notes n items (chain_after n x ch) (seen_after n x ch r)
samples_notes n (scan k bytes ∷ items) ch r = samples_notes n items (chain_after n (scan k bytes) ch) r

-- no chip but the last has KEYB on, at each sample
abbrev pub KeysAtLast : ℕ → Item → Chain → Reader → Type 0
KeysAtLast n (sample offset b) ch r = KeypadLast n ch.chips
KeysAtLast n (scan k bytes) ch r = Unit {0}
