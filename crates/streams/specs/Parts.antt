-- What this crate's own functions promise to one another. No entry's promise cites these.
-- Assumes nothing.
use Rattle.std.specs.Prelude.{◌≡◌, ℕ, suc, ◌+◌, ◌%◌, ◌^◌, ◌≤◌, Bool, ◌&&◌, List, [], ◌∷◌, length, take, ◌==◌, nat_lt}
use Rattle.base.specs.Pick.{pick}
use Rattle.chain.specs.Chain.{chip_count}
use Rattle.lines.specs.Answers.{Puts}
use Rattle.capture.specs.declared.Report.{Report}
use Rattle.reads.specs.Parts.{run_length}
use Rattle.reads.specs.Reads.{is_sample, sampled_all}
use Rattle.streams.specs.declared.Kind.{Kind}
use Rattle.streams.specs.declared.Kind.TheVariants.{Over}
use Rattle.streams.specs.declared.State.{State}
use Rattle.streams.specs.declared.Step.{Step}
use Rattle.streams.specs.declared.Stream.{Stream}
use Rattle.streams.specs.declared.Output.{Output}
use Rattle.streams.specs.declared.samples.Ran.{Ran}
use Rattle.streams.specs.Steps.{Stepped, going, begins, After}

-- room for what any block writes, 187 * (4096 + 64): for each byte what a sample writes at most, and for 64 bytes more, since a line that was
-- held from before, or a refusal, writes too
abbrev pub most_written : ℕ
most_written = 777920

-- a step was made, and what it wrote was put at a place
pub record Steps (x : Stepped) (at : ℕ) (out : List ℕ) (r : Step) (out' : List ℕ) : Type 0 where
  pub state : r.state ≡ x.state
  pub over : r.over ≡ x.over
  pub puts : Puts x.out at out r.at out'

-- samples that were played one after another
abbrev pub ran : Report → State → List ℕ → Stepped
ran what s bytes =
    let x = sampled_all what s.n s.place bytes s.chain s.reader in
    going (begins s.n x.chain x.reader ((s.place + length bytes) % 2 ^ 64)) x.out

-- a byte is the first of a run of samples: the first three bytes were read, and no scan's is held
abbrev pub starts_run : State → ℕ → Bool
starts_run s b = chip_count s.n && s.held.count == 0 && is_sample b

-- how many samples without DOUT, 00H to 07H, stand before the next byte that is none, or the block's end
unfoldable pub plain_length : List ℕ → ℕ
plain_length [] = 0
plain_length (b ∷ bytes) = pick (nat_lt b 0x08) (suc (plain_length bytes)) 0

-- some of the samples that stand first were played, what they wrote was put at a place, and the answer counts them
pub record Runs (what : Report) (s : State) (bytes : List ℕ) (at : ℕ) (out : List ℕ) (r : Ran) (out' : List ℕ) : Type 0 where
  pub some : 1 ≤ r.count
  pub within : r.count ≤ run_length bytes
  pub step : Steps (ran what s (take r.count bytes)) at out r.step out'

-- the stream of a kind after a step
abbrev pub stream_after : Kind → Step → Stream
stream_after kind r = record { kind = pick r.over Over kind; state = r.state }

-- a block was taken, and what it wrote stands at the front of a buffer
pub record Writes (x : After) (out : List ℕ) (r : Output) (out' : List ℕ) : Type 0 where
  pub stream : r.stream ≡ x.stream
  pub puts : Puts x.out 0 out r.bytes out'
