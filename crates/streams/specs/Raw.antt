-- Raw streams: 00 01 N, then samples of a byte each, and scans of a chip.
-- Assumes nothing.
use Rattle.std.specs.Prelude.{ℕ, ◌-◌, Bool, ◌&&◌, List, [], ◌∷◌, ◌++◌, length, ◌==◌, nat_le, nat_lt}
use Rattle.base.specs.Pick.{pick}
use Rattle.chain.specs.declared.Chain.{Chain}
use Rattle.chain.specs.Chain.{chip_count}
use Rattle.chain.specs.Entries.{start_chain}
use Rattle.lines.specs.Lines.{line_for, eight_bytes}
use Rattle.capture.specs.declared.Report.{Report}
use Rattle.capture.specs.Frames.{scan}
use Rattle.capture.specs.Parts.{out_of}
use Rattle.capture.specs.Replay.{taken}
use Rattle.reads.specs.declared.Reader.{Reader}
use Rattle.reads.specs.Reads.{is_sample, start_reader, next_offset, Sampled, sampled}

-- a byte that may not stand where it stands, or is missing there: 1F 0A and its offset in eight bytes
abbrev pub raw_refusal : ℕ → List ℕ
raw_refusal offset = line_for (0x1F ∷ 0x0A ∷ eight_bytes offset)

-- ---- items

-- an item: a sample, by its byte; or a scan of a chip, and its eight bytes
pub data Item : Type 0 where
  sample : ℕ → Item
  scanned : ℕ → List ℕ → Item

-- what the bytes of an item say so far: the item, or that there is more to come, or that the last of them may not stand there
pub data Said : Type 0 where
  whole : Item → Said
  begun : Said
  wrong : Said

-- a scan's first byte: 80H + k, of a chip k below N
abbrev pub is_scan : ℕ → ℕ → Bool
is_scan n b = nat_le 0x80 b && nat_lt (b - 0x80) n

-- a sample; or a scan's first byte and eight more
unfoldable pub item_of : ℕ → List ℕ → Said
item_of n [] = begun
item_of n (b ∷ more) =
    pick (is_sample b) (whole (sample b))
    (pick (is_scan n b) (pick (nat_lt (length more) 8) begun (whole (scanned (b - 0x80) more))) wrong)

-- ---- the output

-- an item at an offset: the chain and the reader after it, and what it writes; a sample is played with the look before it
abbrev pub item_taken : Report → ℕ → ℕ → Chain → Reader → Item → Sampled
item_taken what n offset ch r (sample b) = sampled what n offset b ch r
item_taken what n offset ch r (scanned k bytes) =
    let t = taken what n ch (scan k bytes) in
    record { chain = t.state; reader = r; out = out_of t.told }

-- by what an item's bytes say: the item is whole, or there is more to come, or the last byte may not stand there
abbrev pub by_item : Said → (Item → List ℕ) → List ℕ → List ℕ → List ℕ
by_item (whole item) taken more refusal = taken item
by_item begun taken more refusal = more
by_item wrong taken more refusal = refusal

-- bytes one after another, from an offset on, after those of an item that isn't whole yet
unfoldable pub raw_from : Report → ℕ → ℕ → Chain → Reader → List ℕ → List ℕ → List ℕ
raw_from what n offset ch r held [] = pick (length held == 0) [] (raw_refusal offset)
raw_from what n offset ch r held (b ∷ bytes) =
    by_item (item_of n (held ++ b ∷ []))
    (λ item. let x = item_taken what n offset ch r item in
    x.out ++ raw_from what n (next_offset offset) x.chain x.reader [] bytes)
    (raw_from what n (next_offset offset) ch r (held ++ b ∷ []) bytes)
    (raw_refusal offset)

-- N, the third byte
abbrev pub raw_count : Report → List ℕ → List ℕ
raw_count what [] = raw_refusal 2
raw_count what (n ∷ bytes) = pick (chip_count n) (raw_from what n 3 start_chain start_reader [] bytes) (raw_refusal 2)

-- all after the first byte, which is 00: 01, N, and the items of a chain of N chips, started
abbrev pub raw_out : Report → List ℕ → List ℕ
raw_out what [] = raw_refusal 1
raw_out what (b ∷ bytes) = pick (b == 0x01) (raw_count what bytes) (raw_refusal 1)
