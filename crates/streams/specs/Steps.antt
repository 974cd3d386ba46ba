-- A stream in blocks as they arrive: what one byte does, what a block does, what the end does, and the entries' promises. That this
-- writes what specs/Streams.antt says, however the stream is cut, is proved: proofs/Whole.antt.
-- Assumes nothing.
use Rattle.std.specs.Prelude.{◌≡◌, ℕ, ◌+◌, ◌%◌, ◌^◌, min, Bool, true, false, List, [], ◌∷◌, ◌++◌, length, take, ◌==◌, nat_lt, slice_index_or}
use Rattle.base.specs.Lent.{laid}
use Rattle.base.specs.Pick.{pick}
use Rattle.base.specs.Refusals.{Told, done, refused}
use Rattle.chain.specs.declared.Chain.{Chain}
use Rattle.chain.specs.Chain.{chip_count}
use Rattle.chain.specs.Entries.{start_chain}
use Rattle.lines.specs.Lines.{newline}
use Rattle.capture.specs.declared.Report.{Report}
use Rattle.capture.specs.Frames.{form_of, first_of}
use Rattle.capture.specs.Reports.{refusal_line}
use Rattle.capture.specs.Replay.{taken}
use Rattle.reads.specs.declared.Reader.{Reader}
use Rattle.reads.specs.Reads.{is_sample, start_reader, next_offset}
use Rattle.streams.specs.declared.Fed.{Fed}
use Rattle.streams.specs.declared.Kind.{Kind}
use Rattle.streams.specs.declared.Kind.TheVariants.{Unknown, Text, Raw, Over}
use Rattle.streams.specs.declared.State.{State}
use Rattle.streams.specs.declared.Stream.{Stream}
use Rattle.streams.specs.declared.held.Held.{Held}
use Rattle.streams.specs.Held.{none_held, grown_one, line_held}
use Rattle.streams.specs.Raw.{Item, sample, scanned, is_scan, item_taken, raw_refusal}

-- ---- one byte

-- a step: the state after it, whether the stream was refused, and what it wrote
pub record Stepped : Type 0 where
  pub state : State
  pub over : Bool
  pub out : List ℕ

-- it goes on
abbrev pub going : State → List ℕ → Stepped
going s out = record { state = s; over = false; out = out }

-- it was refused, and the state stays
abbrev pub stopped : State → List ℕ → Stepped
stopped s out = record { state = s; over = true; out = out }

-- a state at whose place a line or an item begins
abbrev pub begins : ℕ → Chain → Reader → ℕ → State
begins n ch r place = record { n = n; chain = ch; place = place; held = none_held; reader = r }

-- a state that holds one byte more
abbrev pub holding : ℕ → ℕ → State → State
holding place b s = record { n = s.n; chain = s.chain; place = place; held = grown_one s.held b; reader = s.reader }

-- ---- text: the place is the line's number

-- the first line gave N, or is refused with 10
abbrev pub first_taken : State → Told ℕ → Stepped
first_taken s (done n) = going (begins n start_chain start_reader (s.place + 1)) []
first_taken s (refused number place) = stopped s (refusal_line 10 s.place)

-- a later line left a chain and wrote this, or is refused with 10
abbrev pub later_taken : State → Chain → Told (List ℕ) → Stepped
later_taken s ch (done out) = going (begins s.n ch s.reader (s.place + 1)) out
later_taken s ch (refused number place) = stopped s (refusal_line 10 s.place)

-- the line that is held was ended; the first is the one before N is known
abbrev pub line_ended : Report → State → Stepped
line_ended what s =
    let t = taken what s.n s.chain (form_of s.n (line_held s.held)) in
    pick (chip_count s.n) (later_taken s t.state t.told) (first_taken s (first_of (line_held s.held)))

-- one byte of a text; there is no line of number 2^32
unfoldable pub text_byte : Report → State → ℕ → Stepped
text_byte what s b =
    pick (nat_lt s.place (2 ^ 32)) (pick (b == newline) (line_ended what s) (going (holding s.place b s) [])) (stopped s (refusal_line 11 0))

-- ---- raw: the place is the byte's offset

-- the byte may not stand there
abbrev pub raw_refused : State → Stepped
raw_refused s = stopped s (raw_refusal s.place)

-- the byte is held
abbrev pub raw_held : State → ℕ → Stepped
raw_held s b = going (holding (next_offset s.place) b s) []

-- an item that is whole
abbrev pub raw_taken : Report → State → Item → Stepped
raw_taken what s item =
    let x = item_taken what s.n s.place s.chain s.reader item in
    going (begins s.n x.chain x.reader (next_offset s.place)) x.out

-- one of the first three bytes, 00, 01, N: each of the first two is its own offset, which is how many are held
abbrev pub head_byte : State → ℕ → Stepped
head_byte s b =
    pick (nat_lt s.held.count 2) (pick (b == s.held.count) (raw_held s b) (raw_refused s))
    (pick (chip_count b) (going (begins b start_chain start_reader (next_offset s.place)) []) (raw_refused s))

-- the scan whose first eight bytes are held, with its last one; of any record that may be handed over, so the chip is below 128
abbrev pub scan_held : Held → ℕ → Item
scan_held h b =
    let at = slice_index_or h.bytes in
    scanned (at 0 0 % 128) (at 1 0 ∷ at 2 0 ∷ at 3 0 ∷ at 4 0 ∷ at 5 0 ∷ at 6 0 ∷ at 7 0 ∷ b ∷ [])

-- one byte of an item
abbrev pub item_byte : Report → State → ℕ → Stepped
item_byte what s b =
    pick (s.held.count == 0)
    (pick (is_sample b) (raw_taken what s (sample b)) (pick (is_scan s.n b) (raw_held s b) (raw_refused s)))
    (pick (nat_lt s.held.count 8) (raw_held s b) (raw_taken what s (scan_held s.held b)))

-- one byte of a raw stream; the first three come before N is known
unfoldable pub raw_byte : Report → State → ℕ → Stepped
raw_byte what s b = pick (chip_count s.n) (item_byte what s b) (head_byte s b)

-- ---- a block

-- a step, and then the rest, unless it was refused
abbrev pub then : Stepped → (State → Stepped) → Stepped
then x rest =
    pick x.over x (record { state = (rest x.state).state; over = (rest x.state).over; out = x.out ++ (rest x.state).out })

-- bytes one after another, up to the first that is refused
unfoldable pub steps : (State → ℕ → Stepped) → State → List ℕ → Stepped
steps by s [] = going s []
steps by s (b ∷ bytes) = then (by s b) (λ next. steps by next bytes)

-- a stream after a block, and what the block wrote
pub record After : Type 0 where
  pub stream : Stream
  pub out : List ℕ

-- the stream of a kind after steps
abbrev pub after : Kind → Stepped → After
after kind x = record { stream = record { kind = pick x.over Over kind; state = x.state }; out = x.out }

-- a state at a place
abbrev pub placed_at : ℕ → State → State
placed_at place s = record { n = s.n; chain = s.chain; place = place; held = s.held; reader = s.reader }

-- a block, by the stream's kind, which its first byte tells
abbrev pub fed_by : Report → Kind → State → List ℕ → After
fed_by what Unknown s [] = record { stream = record { kind = Unknown; state = s }; out = [] }
fed_by what Unknown s (b ∷ bytes) =
    pick (b == 0x00) (after Raw (steps (raw_byte what) (placed_at 0 s) (b ∷ bytes))) (after Text (steps (text_byte what) (placed_at 1 s) (b ∷ bytes)))
fed_by what Text s bytes = after Text (steps (text_byte what) s bytes)
fed_by what Raw s bytes = after Raw (steps (raw_byte what) s bytes)
fed_by what Over s bytes = record { stream = record { kind = Over; state = s }; out = [] }

-- a block
unfoldable pub fed : Report → Stream → List ℕ → After
fed what s bytes = fed_by what s.kind s.state bytes

-- ---- the start and the end

-- a stream before its first byte
abbrev pub start_stream : Stream
start_stream = record { kind = Unknown; state = begins 0 start_chain start_reader 0 }

-- what the end writes: a refusal, where the first line is missing, or the end stands inside a line, the first three bytes or a scan
abbrev pub end_by : Kind → State → List ℕ
end_by Unknown s = refusal_line 10 1
end_by Text s = pick (s.held.count == 0) [] (refusal_line 10 s.place)
end_by Raw s = pick (s.held.count == 0) [] (raw_refusal s.place)
end_by Over s = []

-- the end of a stream
unfoldable pub ended : Stream → List ℕ
ended s = end_by s.kind s.state

-- ---- the entries

-- the most bytes that a call takes
abbrev pub most_taken : ℕ
most_taken = 4096

-- what `feed` does: it takes the block, or so many bytes of it; what they wrote stands at the front of the lent array, and the rest is as it was
pub record Feeds (what : Report) (s : Stream) (bytes out : List ℕ) (r : Fed) (out' : List ℕ) : Type 0 where
  pub stream : r.stream ≡ (fed what s (take most_taken bytes)).stream
  pub passed : r.passed ≡ min (length bytes) most_taken
  pub count : r.bytes ≡ length (fed what s (take most_taken bytes)).out
  pub front : out' ≡ laid (fed what s (take most_taken bytes)).out out

-- what `finish` does: what the end writes stands at the front of the lent array, and the rest is as it was
pub record Finishes (s : Stream) (out : List ℕ) (r : ℕ) (out' : List ℕ) : Type 0 where
  pub count : r ≡ length (ended s)
  pub front : out' ≡ laid (ended s) out
