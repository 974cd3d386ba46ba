-- Document 01, "Capture text": what a whole text is replayed to, line by line, and the entries' promises.
-- Assumes nothing.
use Rattle.std.specs.Prelude.{◌≡◌, ℕ, suc, List, [], ◌∷◌, ◌++◌, leb, length}
use Rattle.base.specs.Lent.{laid}
use Rattle.base.specs.Pick.{pick}
use Rattle.base.specs.Refusals.{Told, done, refused, Outcome, hands_back, tells}
use Rattle.chip.specs.Edges.{load_rises}
use Rattle.chip.specs.Scans.{scanned}
use Rattle.chain.specs.declared.Chain.{Chain}
use Rattle.chain.specs.Chain.{stepped_chain, played}
use Rattle.chain.specs.Entries.{start_chain, chip_at, with_chip}
use Rattle.lines.specs.Lines.{Line, lines_of, bytes_in}
use Rattle.capture.specs.declared.Report.{Report}
use Rattle.capture.specs.declared.Replayed.{Replayed}
use Rattle.capture.specs.Frames.{Form, samples, scan, other, form_of, first_of}
use Rattle.capture.specs.Reports.{at_rise, at_scan, refusal_line}

-- ---- the output

-- what samples write: at each LOAD rise, of the chain after it
unfoldable pub rises_in : Report → ℕ → List ℕ → Chain → List ℕ
rises_in what n [] ch = []
rises_in what n (s ∷ ss) ch =
    pick (load_rises ch.levels s) (at_rise what n (stepped_chain n s ch)) [] ++ rises_in what n ss (stepped_chain n s ch)

-- a line: the chain after it and what it writes; or refusal 10, and the chain as it was
abbrev pub taken : Report → ℕ → Chain → Form → Outcome Chain (List ℕ)
taken what n ch (samples ss) = record { state = played n ss ch; told = done (rises_in what n ss ch) }
taken what n ch (scan k bytes) =
    record { state = with_chip k (scanned bytes (chip_at k ch)) ch; told = done (at_scan what k bytes (chip_at k ch)) }
taken what n ch other = hands_back ch 10 0

-- what a line wrote, and then the rest; or its refusal, and nothing more
abbrev pub and_then : Told (List ℕ) → ℕ → List ℕ → List ℕ
and_then (done out) line rest = out ++ rest
and_then (refused number place) line rest = refusal_line number line

-- lines one after another, from a line's number on
unfoldable pub lines_out : Report → ℕ → ℕ → Chain → List Line → List ℕ
lines_out what n line ch [] = []
lines_out what n line ch (l ∷ ls) =
    let t = taken what n ch (form_of n (bytes_in l)) in
    and_then t.told line (lines_out what n (suc line) t.state ls)

-- the lines after the first, where the first is of its form: a chain of N chips, started
abbrev pub after_first : Report → Told ℕ → List Line → List ℕ
after_first what (done n) ls = lines_out what n 2 start_chain ls
after_first what (refused number place) ls = refusal_line number 1

-- all lines; the first missing is refused as a line that isn't of the form
abbrev pub all_out : Report → List Line → List ℕ
all_out what [] = refusal_line 10 1
all_out what (l ∷ ls) = after_first what (first_of (bytes_in l)) ls

-- the output of a text of at most 65,536 bytes; refusal 11 comes before any other output, and names line 0
unfoldable pub output_of : Report → List ℕ → List ℕ
output_of what text = pick (leb (length text) 65536) (all_out what (lines_of text)) (refusal_line 11 0)

-- ---- how a text ends: taken to its end, or refused; the same for both reports

-- a line of a form, and how the rest ends; or refusal 10, and the line's number
abbrev pub line_end : Form → ℕ → Told (Unit {0}) → Told (Unit {0})
line_end (samples ss) line rest = rest
line_end (scan k bytes) line rest = rest
line_end other line rest = refused 10 line

-- lines one after another, from a line's number on: the first that isn't of the form is refused
unfoldable pub lines_end : ℕ → ℕ → List Line → Told (Unit {0})
lines_end n line [] = done tt
lines_end n line (l ∷ ls) = line_end (form_of n (bytes_in l)) line (lines_end n (suc line) ls)

-- the lines after the first, where the first is of its form
abbrev pub first_end : Told ℕ → List Line → Told (Unit {0})
first_end (done n) ls = lines_end n 2 ls
first_end (refused number place) ls = refused number 1

-- all lines; the first missing is refused as a line that isn't of the form
abbrev pub all_end : List Line → Told (Unit {0})
all_end [] = refused 10 1
all_end (l ∷ ls) = first_end (first_of (bytes_in l)) ls

-- the end of a text of at most 65,536 bytes; refusal 11 comes before any other, and names line 0
unfoldable pub end_of : List ℕ → Told (Unit {0})
end_of text = pick (leb (length text) 65536) (all_end (lines_of text)) (refused 11 0)

-- ---- the entries

-- what `replay` and `screen` do: the output stands at the front of the lent array, the rest is as it was, and the answer is how
-- many bytes it has and how the text ended
pub record Replays (what : Report) (text out : List ℕ) (r : Replayed) (out' : List ℕ) : Type 0 where
  pub answer : tells r.answer ≡ end_of text
  pub count : r.bytes ≡ length (output_of what text)
  pub bytes : out' ≡ laid (output_of what text) out
