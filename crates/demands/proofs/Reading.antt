-- What the till read, by what `watch` writes of a raw stream with DOUT.
--     notes_written      each item's note, and then what the item writes without DOUT
--     watch_codes        the codes of the lines 16 are those that the chip held at its read words, and no line 17 or 15 is written
--     probe_reads        both, of a probe's recording of any history
-- Assumes nothing.
use mathlib.Core.Path.{◌≡◌, refl, ap, sym, subst, ◌∙◌}
use mathlib.Core.Bool.{true, false}
use mathlib.Core.List.{List, [], ◌∷◌, ◌++◌, append_assoc}
use Prim.Native.Nat.{ℕ, ◌-◌, ◌/◌, ◌%◌}
use native.Mathlib.Omega.{arith}
use lib.Dec.{T, eqb, ltb}
use lib.ListN.{get_or-replicate}
use Rattle.base.proofs.Picks.{pick_yes, pick_cases}
use Rattle.chip.specs.declared.Chip.{Chip}
use Rattle.chip.specs.Record.{valid, reset_chip}
use Rattle.chip.specs.Scans as Scans
use Rattle.chip.proofs.Valid.{reset_valid}
use Rattle.chain.specs.declared.Chain.{Chain}
use Rattle.chain.specs.Chain.{most, chip_count, stepped_chain}
use Rattle.chain.specs.Entries.{start_chain, chip_at, with_chip}
use Rattle.chain.proofs.Tested.{count_high, count_low}
use Rattle.capture.specs.declared.Report.{Report}
use Rattle.capture.specs.Replay.{rises_in}
use Rattle.capture.specs.Reports.{at_scan}
use Rattle.reads.specs.declared.Reader.{Reader}
use Rattle.reads.specs.Notes.{note_line}
use Rattle.reads.specs.Reads.{last_chip, start_reader, look_at, sampled, is_sample, next_offset}
use Rattle.reads.specs.Till as Till
use Rattle.reads.specs.Till.{chain_after, seen_after, runs, Throughout, HasDout, Played, levels, scans, shown_byte, recording_of, unscanned}
use Rattle.reads.proofs.Trusted.{codes_read, no_cut, no_difference}
use Rattle.reads.proofs.Recordings.{recording_recorded}
use Rattle.reads.proofs.Probe.{probe_codes, probe_no_cut, probe_agrees}
use Rattle.streams.specs.Raw.{Item, sample, scanned, raw_refusal, raw_from}
use Rattle.streams.specs.Same.{AllGiven, past_bytes, raw_of, raw_of_all, raw_stream}
use Rattle.streams.proofs.SameFrames.{items_out, raw_given}
use Rattle.demands.specs.Reading.{placed_item, placed_items, written_by, NotesWritten, CodesRead, raw_samples, ProbeReads}
use Rattle.demands.proofs.Watching.{watch_law}

-- items from an offset on
items_noted : (what : Report) (n : ℕ) (gs : List Item) (offset : ℕ) (ch : Chain) (r : Reader)
    → items_out what n offset ch r gs ≡ written_by what n (placed_items offset gs) ch r
unfolding items_out placed_items written_by sampled
items_noted what n [] offset ch r = refl
items_noted what n (sample b ∷ gs) offset ch r =
    let x = sampled what n offset b ch r in
    let next = past_bytes offset (raw_of (sample b)) in
    let note = note_line (n - 1) (look_at n b ch r).note in
    append_assoc note (rises_in what n (b % 8 ∷ []) ch) (items_out what n next x.chain x.reader gs)
    ∙ ap (λ rest. note ++ (rises_in what n (b % 8 ∷ []) ch ++ rest)) (items_noted what n gs next x.chain x.reader)
items_noted what n (scanned k bytes ∷ gs) offset ch r =
    ap (λ rest. at_scan what k bytes (chip_at k ch) ++ rest)
    (items_noted what n gs (past_bytes offset (raw_of (scanned k bytes))) (chain_after n (placed_item offset (scanned k bytes)) ch) r)

pub notes_written : NotesWritten
notes_written what s e n some gs all written w =
    watch_law what s e (raw_stream n gs) written w
    ∙ pick_yes (raw_from what n 3 start_chain start_reader [] (raw_of_all gs)) (raw_refusal 2) some
    ∙ raw_given what n some gs start_chain start_reader all 3
    ∙ items_noted what n gs 3 start_chain start_reader

-- the last chip of a started chain is valid, and no readout runs in it
start_sound : (n : ℕ) → chip_count n ≡ true → T (valid (last_chip n start_chain)) × (runs (last_chip n start_chain) ≡ false)
start_sound n some =
    let low = count_low n (subst T (sym some) tt) in
    let high = count_high n (subst T (sym some) tt) in
    let one : last_chip n start_chain ≡ reset_chip = get_or-replicate most (n - 1) reset_chip reset_chip (omega arith) in
    (subst (λ (c : Chip). T (valid c)) (sym one) reset_valid, ap runs one)

pub watch_codes : CodesRead
watch_codes n some gs all seen ends over =
    let items = placed_items 3 gs in
    let s = start_sound n some in (
      codes_read n some items start_chain s.0 s.1 all seen ends over,
      no_cut n some items start_chain s.0 s.1 all seen ends,
      no_difference n items start_chain start_reader refl seen,
    )

-- ---- a probe's recording

-- a sample with a recorded DOUT may stand in a stream
dout_given : (b : ℕ) → b / 16 ≡ 1 → is_sample b ≡ true
dout_given b h = pick_cases (λ t. t ≡ true) (ltb b 0x08) (λ e. refl) (λ e. ap (λ x. eqb x 1) h)

samples_given : (n : ℕ) (items : List Till.Item) (ch : Chain) (r : Reader) → Throughout n HasDout items ch r → AllGiven n (raw_samples (unscanned items))
unfolding Throughout unscanned raw_samples AllGiven
samples_given n [] ch r all = tt
samples_given n (Till.sample offset b ∷ items) ch r all =
    let x = Till.sample offset b in
    (dout_given b all.0, samples_given n items (chain_after n x ch) (seen_after n x ch r) all.1)
samples_given n (Till.scan k bytes ∷ items) ch r all = samples_given n items (chain_after n (Till.scan k bytes) ch) r all.1

-- its samples have the offsets that they have in the stream
samples_placed : (n offset : ℕ) (history : List Played) (ch : Chain) →
    let probed = unscanned (recording_of n offset history ch) in
    placed_items offset (raw_samples probed) ≡ probed
unfolding recording_of unscanned raw_samples placed_items past_bytes
samples_placed n offset [] ch = refl
samples_placed n offset (levels v ∷ more) ch =
    let next = stepped_chain n (v % 8) ch in
    ap (λ xs. Till.sample offset (shown_byte n v next) ∷ xs) (samples_placed n (next_offset offset) more next)
samples_placed n offset (scans k bytes ∷ more) ch =
    let next = with_chip k (Scans.scanned bytes (chip_at k ch)) ch in
    ap (λ xs. Till.sample offset (shown_byte n ch.levels next) ∷ xs)
    (samples_placed n (next_offset offset) more (stepped_chain n (ch.levels % 8) next))

pub probe_reads : ProbeReads
probe_reads n some history =
    let whole = recording_of n 3 history start_chain in
    let gs = raw_samples (unscanned whole) in
    let s = start_sound n some in (
      (λ what st e written w.
          notes_written what st e n some gs (samples_given n whole start_chain start_reader (recording_recorded n 3 history start_chain)) written w
          ∙ ap (λ items. written_by what n items start_chain start_reader) (samples_placed n 3 history start_chain)),
      (λ keys ends over. (
        probe_codes n some 3 history start_chain keys s.0 s.1 ends over,
        probe_no_cut n some 3 history start_chain keys s.0 s.1 ends,
        probe_agrees n some 3 history start_chain keys,
      )),
    )
