-- docs/CAPTURES.md, "Text of two wires": what a whole text is replayed to, line by line, and the entries' promises.
-- Assumes nothing.
use Rattle.std.specs.Prelude.{◌≡◌, ℕ, suc, List, [], ◌∷◌, ◌++◌, leb, length}
use Rattle.base.specs.Lent.{laid}
use Rattle.base.specs.Pick.{pick}
use Rattle.base.specs.Refusals.{Told, done, refused, Outcome, hands_back, tells}
use Rattle.capture.specs.declared.Replayed.{Replayed}
use Rattle.capture.specs.Reports.{refusal_line}
use Rattle.capture.specs.Replay.{and_then}
use Rattle.ch450.specs.declared.Panel.{Panel}
use Rattle.ch450.specs.Commands.{told_at}
use Rattle.ch450.specs.Edges.{first_byte, second_byte}
use Rattle.ch450.specs.Panel.{power_on}
use Rattle.ch450.specs.Samples.{stepped_panel, played}
use Rattle.lines.specs.Lines.{Line, lines_of, bytes_in}
use Rattle.wires.specs.declared.Report.{Report}
use Rattle.wires.specs.Frames.{Begin, Form, samples, other, form_of, first_of}
use Rattle.wires.specs.Reports.{obeyed_lines}

-- ---- the output

-- what a sample writes: of the command that it makes the panel obey, with the panel after it
abbrev pub at_sample : Report → ℕ → ℕ → Panel → List ℕ
at_sample what key s p =
    obeyed_lines what key (first_byte p.wires) (second_byte p.wires) (told_at s p.wires) (stepped_panel s p)

-- samples one after another
unfoldable pub written_by : Report → ℕ → List ℕ → Panel → List ℕ
written_by what key [] p = []
written_by what key (s ∷ ss) p = at_sample what key s p ++ written_by what key ss (stepped_panel s p)

-- a line: the panel after it and what it writes; or refusal 10, and the panel as it was
abbrev pub taken : Report → ℕ → Panel → Form → Outcome Panel (List ℕ)
taken what key p (samples ss) = record { state = played ss p; told = done (written_by what key ss p) }
taken what key p other = hands_back p 10 0

-- lines one after another, from a line's number on; what a line wrote, and then the rest; or its refusal, and nothing more
unfoldable pub lines_out : Report → ℕ → ℕ → Panel → List Line → List ℕ
lines_out what key line p [] = []
lines_out what key line p (l ∷ ls) =
    let t = taken what key p (form_of (bytes_in l)) in
    and_then t.told line (lines_out what key (suc line) t.state ls)

-- the lines after the first, where the first is of its form: a panel at power-on
abbrev pub after_first : Report → Told Begin → List Line → List ℕ
after_first what (done b) ls = lines_out what b.key 2 (power_on b.digits) ls
after_first what (refused number place) ls = refusal_line number 1

-- all lines; the first missing is refused as a line that isn't of the form
abbrev pub all_out : Report → List Line → List ℕ
all_out what [] = refusal_line 10 1
all_out what (l ∷ ls) = after_first what (first_of (bytes_in l)) ls

-- the output of a text of at most 65,536 bytes; refusal 11 comes before any other output, and names line 0
unfoldable pub output_of : Report → List ℕ → List ℕ
output_of what text = pick (leb (length text) 65536) (all_out what (lines_of text)) (refusal_line 11 0)

-- ---- how a text ends: taken to its end, or refused; the same for both reports

-- a line of a form, and how the rest ends; or refusal 10, and the line's number
abbrev pub line_end : Form → ℕ → Told (Unit {0}) → Told (Unit {0})
line_end (samples ss) line rest = rest
line_end other line rest = refused 10 line

-- lines one after another, from a line's number on: the first that isn't of the form is refused
unfoldable pub lines_end : ℕ → List Line → Told (Unit {0})
lines_end line [] = done tt
lines_end line (l ∷ ls) = line_end (form_of (bytes_in l)) line (lines_end (suc line) ls)

-- the lines after the first, where the first is of its form
abbrev pub first_end : Told Begin → List Line → Told (Unit {0})
first_end (done b) ls = lines_end 2 ls
first_end (refused number place) ls = refused number 1

-- all lines; the first missing is refused as a line that isn't of the form
abbrev pub all_end : List Line → Told (Unit {0})
all_end [] = refused 10 1
all_end (l ∷ ls) = first_end (first_of (bytes_in l)) ls

-- the end of a text of at most 65,536 bytes; refusal 11 comes before any other, and names line 0
unfoldable pub end_of : List ℕ → Told (Unit {0})
end_of text = pick (leb (length text) 65536) (all_end (lines_of text)) (refused 11 0)

-- ---- the entries

-- what `replay` and `screen` do: the output stands at the front of the lent array, the rest is as it was, and the answer is how
-- many bytes it has and how the text ended
pub record Replays (what : Report) (text out : List ℕ) (r : Replayed) (out' : List ℕ) : Type 0 where
  pub answer : tells r.answer ≡ end_of text
  pub count : r.bytes ≡ length (output_of what text)
  pub bytes : out' ≡ laid (output_of what text) out
