-- A stream that is watched: reads of it, each handed to `feed` with an array that is lent, and at its end `finish`. Of the entries nothing is
-- used but their contracts.
--     Watches          reads and their results as the contracts allow them: the bytes that were read, and those that were written
--     WatchLaw         whatever the reads are, what is written is that of the whole stream
--     AsReplay         a text of at most 65,536 bytes gives what `replay` or `screen` gives
--     WatchRun         the reads that these speak of have results
-- Assumes nothing.
use Rattle.std.specs.Prelude.{◌≡◌, List, [], ◌∷◌, ◌++◌, ℕ, ◌≤◌, length, get_or, take}
use Rattle.capture.specs.declared.Replayed.{Replayed}
use Rattle.capture.specs.declared.Report.{Report}
use Rattle.capture.specs.Replay.{Replays}
use Rattle.streams.specs.declared.Fed.{Fed}
use Rattle.streams.specs.declared.Kind.TheVariants.{Over}
use Rattle.streams.specs.declared.Stream.{Stream}
use Rattle.streams.specs.Cut.{joined}
use Rattle.streams.specs.Steps.{start_stream, most_taken, Feeds, Finishes}
use Rattle.streams.specs.Streams.{watch_out}

-- reads of a stream and what they wrote, from a record on: what a call passed was read, and what it counts of the lent array was written
pub data Watches (what : Report) : Stream → List ℕ → List ℕ → Type 0 where
  -- the end of the input
  ends : {s : Stream} {out : List ℕ} (r : ℕ) (out' : List ℕ) → Finishes s out r out' → Watches what s [] (take r out')
  -- a stream that was refused is read no further, whatever comes
  stops : {s : Stream} {more : List ℕ} → s.kind ≡ Over → Watches what s more []
  -- one more read
  reads : {s : Stream} {bytes out more written : List ℕ} (r : Fed) (out' : List ℕ) → Feeds what s bytes out r out' → Watches what r.stream more written
      → Watches what s (take r.passed bytes ++ more) (take r.bytes out' ++ written)

-- from what `start` hands out on, what is written is the output of what was read, wherever the reads cut it
abbrev pub WatchLaw : Type 0
WatchLaw = (what : Report) (s : Stream) → s ≡ start_stream → (input written : List ℕ) → Watches what s input written → written ≡ watch_out what input

-- a text of at most 65,536 bytes, whose first byte isn't 00: what was written is what `replay` or `screen` puts at the front of its array
abbrev pub AsReplay : Type 0
AsReplay = (what : Report) (s : Stream) → s ≡ start_stream → (text written : List ℕ) → Watches what s text written → length text ≤ 65536
    → (get_or text 0 1 ≡ 0x00 → ⊥)
    → (out : List ℕ) (r : Replayed) (out' : List ℕ) → Replays what text out r out'
    → written ≡ take r.bytes out'

-- blocks, none longer than a call takes
unfoldable pub Short : List (List ℕ) → Type 0
Short [] = Unit {0}
Short (block ∷ blocks) = (length block ≤ most_taken) × Short blocks

-- any stream can be read so, in any blocks that a call takes whole
abbrev pub WatchRun : Type 0
WatchRun = (what : Report) (s : Stream) (blocks : List (List ℕ)) → Short blocks → (written : List ℕ) × Watches what s (joined blocks) written
