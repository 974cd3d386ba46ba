-- What the till read: a probe's recorded DOUT of the last chip, looked at before each edge of DCLK or LOAD, by the chip's state there. The
-- level that counts is the settled one, the recorded DOUT of the last sample before the edge.
-- Assumes nothing.
use Rattle.std.specs.Prelude.{ℕ, ◌+◌, ◌-◌, ◌*◌, ◌/◌, ◌%◌, ◌^◌, Bool, true, false, not, ◌&&◌, ◌||◌, List, [], ◌∷◌, ◌++◌, ◌==◌, nat_lt}
use Rattle.base.specs.Pick.{pick}
use Rattle.base.specs.Bits.{bit}
use Rattle.chip.specs.declared.Chip.{Chip}
use Rattle.chip.specs.Edges.{dclk, load, dclk_falls, load_rises}
use Rattle.chain.specs.declared.Chain.{Chain}
use Rattle.chain.specs.Chain.{stepped_chain}
use Rattle.chain.specs.Entries.{chip_at}
use Rattle.capture.specs.declared.Report.{Report}
use Rattle.capture.specs.Replay.{rises_in}
use Rattle.reads.specs.declared.Dout.{Dout}
use Rattle.reads.specs.declared.Dout.TheVariants.{NotYet, Missing, Low, High}
use Rattle.reads.specs.declared.Reader.{Reader}
use Rattle.reads.specs.declared.Looked.{Looked}
use Rattle.reads.specs.declared.Note.{Note}
use Rattle.reads.specs.declared.Note.TheVariants.{Nothing, Code, Cut, Interrupt, Differs}
use Rattle.reads.specs.Notes.{note_line}

-- ---- samples and edges

-- a sample: 00H to 07H, or 10H to 1FH, which has the last chip's recorded DOUT in bit 3
abbrev pub is_sample : ℕ → Bool
is_sample b = pick (nat_lt b 0x08) true (b / 16 == 1)

-- its recorded DOUT
abbrev pub recorded_in : ℕ → Dout
recorded_in b = pick (nat_lt b 0x10) Missing (pick (bit b 3) High Low)

-- two levels differ
abbrev pub differ : Bool → Bool → Bool
differ a b = pick a (not b) b

-- an edge of DCLK or LOAD
abbrev pub is_edge : ℕ → ℕ → Bool
is_edge was now = differ (dclk was) (dclk now) || differ (load was) (load now)

-- the last of N chips
abbrev pub last_chip : ℕ → Chain → Chip
last_chip n ch = chip_at (n - 1) ch

-- ---- the reader

-- before the first sample: no DOUT was recorded, and it counts as high and as the latch
abbrev pub start_reader : Reader
start_reader = record { dout = NotYet; offset = 0; bits = 1; quiet = true; agrees = true }

-- a sample with a recorded DOUT has come; before that nothing is looked at
abbrev pub looking : Dout → Bool
looking NotYet = false
looking Missing = true
looking Low = true
looking High = true

-- a reader with other bits of a readout
abbrev pub with_bits : ℕ → Reader → Reader
with_bits bits r = record { dout = r.dout; offset = r.offset; bits = bits; quiet = r.quiet; agrees = r.agrees }

-- one for which DOUT was high, or wasn't, when last looked at outside readouts
abbrev pub with_quiet : Bool → Reader → Reader
with_quiet quiet r = record { dout = r.dout; offset = r.offset; bits = r.bits; quiet = quiet; agrees = r.agrees }

-- one for which DOUT was the latch, or wasn't, when last looked at with KEYB off
abbrev pub with_agrees : Bool → Reader → Reader
with_agrees agrees r = record { dout = r.dout; offset = r.offset; bits = r.bits; quiet = r.quiet; agrees = agrees }

-- one with another last sample: its recorded DOUT and its offset
abbrev pub with_sample : Dout → ℕ → Reader → Reader
with_sample level offset r = record { dout = level; offset = offset; bits = r.bits; quiet = r.quiet; agrees = r.agrees }

-- the look tells this, and leaves the reader so
abbrev pub tells : Reader → Note → Looked
tells r note = record { reader = r; note = note }

-- ---- a readout runs

-- a readout's bits behind a leading 1, K6 first, with the settled level; 0 where it was told as cut, or the level wasn't recorded
abbrev pub bits_with : Dout → ℕ → ℕ
bits_with NotYet bits = 0
bits_with Missing bits = 0
bits_with Low bits = pick (bits == 0) 0 (bits % 128 * 2)
bits_with High bits = pick (bits == 0) 0 (bits % 128 * 2 + 1)

-- a LOAD rise cuts the readout, once
abbrev pub cut_by : Bool → ℕ → Note
cut_by rises bits = pick (rises && not (bits == 0)) Cut Nothing

-- a fall of DCLK, with so many bits left before it: at the seventh the code is read, if all its bits were; a missing bit cuts the readout, once
abbrev pub fall_tells : Bool → ℕ → ℕ → ℕ → Note
fall_tells rises left before bits =
    pick (bits == 0) (pick (before == 0) Nothing Cut)
    (pick (left == 1) (pick (nat_lt bits 128) Cut (Code (bits % 128))) (cut_by rises bits))

-- where DCLK falls, the settled level is the next bit; anywhere else only a LOAD rise tells something
abbrev pub in_readout : Bool → Bool → ℕ → Reader → Looked
in_readout falls rises left r =
    let bits = bits_with r.dout r.bits in
    pick falls (tells (with_bits bits r) (fall_tells rises left r.bits bits)) (tells r (cut_by rises r.bits))

-- ---- KEYB is on and no readout runs

-- an interrupt is seen where DOUT was high when last looked at so
abbrev pub interrupt_where : Bool → Note
interrupt_where quiet = pick quiet Interrupt Nothing

-- DOUT is low where an interrupt stands
abbrev pub outside : Dout → Reader → Looked
outside NotYet r = tells r Nothing
outside Missing r = tells r Nothing
outside Low r = tells (with_quiet false r) (interrupt_where r.quiet)
outside High r = tells (with_quiet true r) Nothing

-- ---- KEYB is off

-- the settled level is the latch or not; where it begins to differ, the offset of its sample is told
abbrev pub latch_looked : Bool → Reader → Looked
latch_looked same r = tells (with_agrees same r) (pick (r.agrees && not same) (Differs r.offset) Nothing)

-- DOUT must be the latch
abbrev pub keypad_off : Dout → Bool → Reader → Looked
keypad_off NotYet latch r = tells r Nothing
keypad_off Missing latch r = tells r Nothing
keypad_off Low latch r = latch_looked (not latch) r
keypad_off High latch r = latch_looked latch r

-- ---- a sample

-- at an edge, by the last chip before it
abbrev pub at_edge : ℕ → ℕ → Chip → Reader → Looked
at_edge was now c r =
    pick c.settings.system.keyb
    (pick (c.line.readout.left == 0) (outside r.dout r) (in_readout (dclk_falls was now) (load_rises was now) c.line.readout.left r))
    (keypad_off r.dout c.line.latch r)

-- before a sample: where it is an edge
unfoldable pub looked : ℕ → ℕ → Chip → Reader → Looked
looked was now c r = pick (looking r.dout && is_edge was now) (at_edge was now c r) (tells r Nothing)

-- a LOAD rise began a readout, by the last chip after it: KEYB is on, and there are bits to be read
abbrev pub begins_readout : ℕ → ℕ → Chip → Bool
begins_readout was now c = load_rises was now && c.settings.system.keyb && not (c.line.readout.left == 0)

-- a read word: no bit was read yet, and DOUT counts as high
abbrev pub begun : Bool → Reader → Reader
begun begins r = pick begins (with_quiet true (with_bits 1 r)) r

-- after a sample, by the last chip after it: the recorded DOUT is kept, and the sample's offset. Until one was recorded, nothing is
unfoldable pub kept : ℕ → ℕ → ℕ → Chip → Reader → Reader
kept was b offset c r =
    pick (looking r.dout) (with_sample (recorded_in b) offset (begun (begins_readout was (b % 8) c) r))
    (pick (nat_lt b 0x10) r (with_sample (recorded_in b) offset r))

-- ---- samples

-- the look before a sample of N chips, by its byte
abbrev pub look_at : ℕ → ℕ → Chain → Reader → Looked
look_at n b ch r = looked ch.levels (b % 8) (last_chip n ch) r

-- the reader after a sample at an offset
abbrev pub reader_after : ℕ → ℕ → ℕ → Chain → Reader → Reader
reader_after n offset b ch r = kept ch.levels b offset (last_chip n (stepped_chain n (b % 8) ch)) (look_at n b ch r).reader

-- the chain and the reader after samples, and what they write
pub record Sampled : Type 0 where
  pub chain : Chain
  pub reader : Reader
  pub out : List ℕ

-- one sample: the look's line comes before those of the edge itself
unfoldable pub sampled : Report → ℕ → ℕ → ℕ → Chain → Reader → Sampled
sampled what n offset b ch r =
    record {
      chain = stepped_chain n (b % 8) ch;
      reader = reader_after n offset b ch r;
      out = note_line (n - 1) (look_at n b ch r).note ++ rises_in what n (b % 8 ∷ []) ch;
    }

-- the next offset; offsets are counted modulo 2^64
abbrev pub next_offset : ℕ → ℕ
next_offset offset = (offset + 1) % 2 ^ 64

-- samples one after another, from an offset on
unfoldable pub sampled_all : Report → ℕ → ℕ → List ℕ → Chain → Reader → Sampled
sampled_all what n offset [] ch r = record { chain = ch; reader = r; out = [] }
sampled_all what n offset (b ∷ bytes) ch r =
    let x = sampled what n offset b ch r in
    let rest = sampled_all what n (next_offset offset) bytes x.chain x.reader in
    record { chain = rest.chain; reader = rest.reader; out = x.out ++ rest.out }
