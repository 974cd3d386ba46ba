-- What this crate's own functions promise to one another and to the other crates. No entry's promise cites these.
-- Assumes nothing.
use Rattle.std.specs.Prelude.{◌≡◌, ℕ, suc, ◌+◌, ◌-◌, ◌*◌, ◌≤◌, Bool, false, ◌&&◌, List, [], ◌∷◌, length, take, nat_le}
use Rattle.base.specs.Pick.{pick}
use Rattle.chain.specs.declared.Chain.{Chain}
use Rattle.chain.specs.Chain.{chip_count}
use Rattle.chain.specs.Stretch.{stretch_from}
use Rattle.lines.specs.Answers.{Puts}
use Rattle.capture.specs.declared.Report.{Report}
use Rattle.reads.specs.declared.Ran.{Ran}
use Rattle.reads.specs.declared.ahead.Ahead.{Ahead}
use Rattle.reads.specs.declared.Reader.{Reader}
use Rattle.reads.specs.Reads.{is_sample, Sampled, sampled_all}

-- room for what one sample writes: a note's 19 bytes, and the most chips' longest lines
abbrev pub sample_room : ℕ
sample_room = 187

-- how many samples stand before the next byte that is none, or the end
unfoldable pub run_length : List ℕ → ℕ
run_length [] = 0
run_length (b ∷ bytes) = pick (is_sample b) (suc (run_length bytes)) 0

-- samples were played, what they wrote was put at a place, and the answer counts them
pub record Runs (x : Sampled) (count at : ℕ) (out : List ℕ) (r : Ran) (out' : List ℕ) : Type 0 where
  pub chain : r.chain ≡ x.chain
  pub reader : r.reader ≡ x.reader
  pub counts : r.count ≡ count
  pub puts : Puts x.out at out r.at out'

-- N is 1 to 8, and a buffer so long has room for so many samples at a place
abbrev pub has_room : ℕ → ℕ → ℕ → ℕ → Bool
has_room n count at long = chip_count n && nat_le (at + sample_room * count) long

-- the samples that are played: those before the next byte that is none, if N is 1 to 8 and there is room
abbrev pub first_of : ℕ → List ℕ → ℕ → List ℕ → List ℕ
first_of n bytes at out = pick (has_room n (run_length bytes) at (length out)) (take (run_length bytes) bytes) []

-- the first samples were played
abbrev pub RunsFirst : Report → ℕ → ℕ → List ℕ → Chain → Reader → ℕ → List ℕ → Ran → List ℕ → Type 0
RunsFirst what n offset first ch reader at out r out' = Runs (sampled_all what n offset first ch reader) (length first) at out r out'

-- some samples were played, those that stand first
pub record RunsSome (what : Report) (n offset : ℕ) (bytes : List ℕ) (ch : Chain) (reader : Reader) (at : ℕ) (out : List ℕ) (r : Ran) (out' : List ℕ) : Type 0 where
  pub some : 1 ≤ r.count
  pub within : r.count ≤ length bytes
  pub runs : Runs (sampled_all what n offset (take r.count bytes) ch reader) r.count at out r out'

-- how many bits of the last chip's register are known after a sample, by KEYB and whether DCLK rises
abbrev pub known_after : Bool → Bool → ℕ → ℕ
known_after keyb rises known = pick keyb known (pick rises (known - 1) known)

-- the samples that stand first were looked at ahead of the chain: LOAD rises in none of them; the chain after them is that of their bytes
-- played as they stand, but for the levels, which are the last sample's
pub record Looks (n offset : ℕ) (bytes : List ℕ) (ch : Chain) (reader : Reader) (at : ℕ) (out : List ℕ) (a : Ahead) (out' : List ℕ) : Type 0 where
  pub within : a.count ≤ length bytes
  pub chain : Chain
  pub stretch : stretch_from n 0 (take a.count bytes) ch ≡ record { chain = chain; stop = a.count; rose = false }
  pub runs : (what : Report)
      → Runs (sampled_all what n offset (take a.count bytes) ch reader) a.count at out
      (record { chain = record { chips = chain.chips; levels = a.levels }; reader = a.reader; count = a.count; at = a.at }) out'
