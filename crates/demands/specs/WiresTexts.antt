-- Document 02, C-15, "Text of two wires" in docs/CAPTURES.md: the table of such a text, refusals 10 and 11, and its whole output. A line
-- is of a form exactly when it is that form's bytes written as lines are: upper-case hexadecimal, two digits a byte, ended by 0AH.
-- What an output tells is as in specs/Texts.antt.
-- Assumes nothing.
use Rattle.std.specs.Prelude.{◌≡◌, List, [], ◌∷◌, ◌++◌, ℕ, ◌-◌, ◌≤◌, ◌<◌, length, take, drop}
use Rattle.base.specs.Below.{AllBelow}
use Rattle.base.specs.Refusals.{Told, done, refused}
use Rattle.ch450.specs.Panel.{power_on}
use Rattle.lines.specs.Lines.{Line, ended, lines_of, bytes_in, as_hex}
use Rattle.capture.specs.Reports.{refusal_line}
use Rattle.wires.specs.declared.Report.{Report}
use Rattle.wires.specs.Frames.{Begin}
use Rattle.wires.specs.Parts.{first_in}
use Rattle.wires.specs.Replay.{written_by, output_of}
use Rattle.demands.specs.Exact.{Row, names, row, each, None, First}

-- ---- the forms of lines

-- the first line: 40 01, the key's code, 0 to 127, and the digits at power-on, DIG2 to DIG7
abbrev pub PanelLine : Line → ℕ → List ℕ → Type 0
PanelLine l key digits =
    (key ≤ 127) × (length digits ≡ 6) × AllBelow 256 digits × (l ≡ ended (as_hex (0x40 ∷ 0x01 ∷ key ∷ digits)))

-- it is of that form, whatever the code and the digits
abbrev pub SomePanelLine : Line → Type 0
SomePanelLine l = (key : ℕ) × (digits : List ℕ) × PanelLine l key digits

-- a line after the first: 41 and 1 to 32 samples, none above 3
abbrev pub WiresLine : Line → Type 0
WiresLine l = (ss : List ℕ) × (1 ≤ length ss) × (length ss ≤ 32) × AllBelow 4 ss × (l ≡ ended (as_hex (0x41 ∷ ss)))

-- ---- the table of a text

-- 10: a line after the first isn't of the form above
abbrev pub wires_row : ℕ → Line → List Row
wires_row number l = names 10 number (WiresLine l → ⊥) ∷ []

-- 10, the first missing included; lines are numbered from 1
abbrev pub wires_rows : List Line → List Row
wires_rows [] = names 10 1 (Unit {0}) ∷ []
wires_rows (first ∷ ls) = names 10 1 (SomePanelLine first → ⊥) ∷ each wires_row 2 ls

-- wires::replay and wires::screen: 11 before any other, then the lines from the first on
abbrev pub wires_table : List ℕ → List Row
wires_table text = row 11 (65536 < length text) ∷ wires_rows (lines_of text)

-- ---- the output

-- the samples of lines, one line after another
unfoldable pub samples_of : List Line → List ℕ
samples_of [] = []
samples_of (l ∷ ls) = drop 1 (bytes_in l) ++ samples_of ls

-- what lines after the first write, from the power-on that the first says: as one block of samples, however it is cut into lines
abbrev pub wrote_by : Report → Told Begin → List Line → List ℕ
wrote_by what (done b) ls = written_by what b.key (samples_of ls) (power_on b.digits)
wrote_by what (refused number place) ls = []

-- what a text's lines before a line wrote; the first line writes nothing
abbrev pub wires_before : Report → List ℕ → ℕ → List ℕ
wires_before what text line = wrote_by what (first_in (lines_of text)) (take (line - 2) (drop 1 (lines_of text)))

-- the output of a text: what its lines wrote, up to the first that is refused, and then that refusal
pub record WiresOutput (what : Report) (text : List ℕ) : Type 0 where
  pub refusal : (number line : ℕ) → First (wires_table text) number line
      → output_of what text ≡ wires_before what text line ++ refusal_line number line
  pub answer : None (wires_table text) → output_of what text ≡ wrote_by what (first_in (lines_of text)) (drop 1 (lines_of text))
