-- C-21, over any capture: what a text adds to a tally, line by line, refusals and all.
-- Assumes nothing.
use Rattle.std.specs.Prelude.{ℕ, suc, List, [], ◌∷◌, map, leb, length}
use Rattle.base.specs.Pick.{pick}
use Rattle.base.specs.Refusals.{Told, done, refused, Outcome, hands_back, once_tested}
use Rattle.chain.specs.declared.Chain.{Chain}
use Rattle.chain.specs.Chain.{most}
use Rattle.chain.specs.Entries.{start_chain}
use Rattle.chain.specs.Events as Events
use Rattle.chain.specs.Events.{Event, sample, happened}
use Rattle.lines.specs.Lines.{Line, lines_of, bytes_in}
use Rattle.capture.specs.Frames.{Form, samples, scan, other, form_of, first_of}
use Rattle.tallies.specs.declared.Tally.{Tally}
use Rattle.tallies.specs.declared.walk.Counting.{Counting}
use Rattle.tallies.specs.Tallies.{added, fits}

-- a chain and a tally, as a line finds and leaves them
abbrev pub counting : Chain → Tally → Counting
counting ch t = record { chain = ch; tally = t }

-- ---- a line

-- the samples and scans of a line are counted where every count has room for so many; else refusal 16, and nothing is changed
abbrev pub counted_events : ℕ → ℕ → Counting → List Event → Outcome Counting (Unit {0})
counted_events n line s es =
    pick (fits (length es) s.tally)
    (record { state = counting (happened n es s.chain) (added n es s.chain s.tally); told = done tt })
    (hands_back s 16 line)

-- a line after the first: 10 before 16
abbrev pub counted_line : ℕ → ℕ → Counting → Form → Outcome Counting (Unit {0})
counted_line n line s (samples ss) = counted_events n line s (map sample ss)
counted_line n line s (scan k bytes) = counted_events n line s (Events.scan k bytes ∷ [])
counted_line n line s other = hands_back s 10 line

-- lines one after another, from a line's number on, up to the first that is refused; what earlier lines counted stands
unfoldable pub counted_lines : ℕ → ℕ → Counting → List Line → Outcome Counting (Unit {0})
counted_lines n line s [] = record { state = s; told = done tt }
counted_lines n line s (l ∷ ls) =
    let o = counted_line n line s (form_of n (bytes_in l)) in
    once_tested o.told o.state (counted_lines n (suc line) o.state ls)

-- ---- a text

-- a tally before a capture's first line, with its chain
abbrev pub begun : Tally → Counting
begun t = counting start_chain t

-- the larger of two numbers
abbrev pub larger : ℕ → ℕ → ℕ
larger a b = pick (leb a b) b a

-- a first line that gives N is accepted: N counts for the largest
abbrev pub with_chips : ℕ → Tally → Tally
with_chips n t = record { chips = t.chips; codes = t.codes; largest = larger t.largest n }

-- the lines after the first, where the first is of its form: a chain of N chips, started
abbrev pub counted_after : Tally → Told ℕ → List Line → Outcome Counting (Unit {0})
counted_after t (done n) ls = counted_lines n 2 (begun (with_chips n t)) ls
counted_after t (refused number place) ls = hands_back (begun t) number 1

-- all lines; the first missing is refused as a line that isn't of the form
abbrev pub counted_all : Tally → List Line → Outcome Counting (Unit {0})
counted_all t [] = hands_back (begun t) 10 1
counted_all t (l ∷ ls) = counted_after t (first_of (bytes_in l)) ls

-- a text: 11 before any other, then 12, a tally whose largest N is above the most chips
unfoldable pub walked : Tally → List ℕ → Outcome Counting (Unit {0})
walked t text =
    pick (leb (length text) 65536)
    (pick (leb t.largest most) (counted_all t (lines_of text)) (hands_back (begun t) 12 0))
    (hands_back (begun t) 11 0)

-- ---- the entry

-- the tally handed back, and how the text ended
abbrev pub counted_of : Tally → List ℕ → Outcome Tally (Unit {0})
counted_of t text = record { state = (walked t text).state.tally; told = (walked t text).told }
