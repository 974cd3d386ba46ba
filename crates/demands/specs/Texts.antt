-- Document 01, "Capture text" and refusals 10 and 11: the table of a text, and what an output tells. A line is of a form exactly
-- when it is that form's bytes written as lines are: upper-case hexadecimal, two digits a byte, ended by 0AH.
-- Assumes nothing.
use Rattle.std.specs.Prelude.{◌≡◌, ◌⊎◌, List, [], ◌∷◌, ◌++◌, ℕ, ◌+◌, ◌*◌, ◌-◌, ◌≤◌, ◌<◌, eqb, length, get_or, take, drop}
use Rattle.base.specs.Pick.{pick}
use Rattle.base.specs.Refusals.{Told, done, refused}
use Rattle.base.specs.Below.{AllBelow}
use Rattle.chain.specs.Entries.{start_chain}
use Rattle.lines.specs.Lines.{Line, ended, lines_of, bytes_in, as_hex}
use Rattle.capture.specs.declared.Report.{Report}
use Rattle.capture.specs.Reports.{refusal_line}
use Rattle.capture.specs.Replay.{output_of}
use Rattle.capture.specs.Parts.{first_in, chips_in}
use Rattle.capture.specs.Law.{wrote}
use Rattle.demands.specs.Exact.{Row, names, row, each, None, First}
use Rattle.demands.specs.Refusals.{NotOneToMost}

-- ---- the forms of lines

-- the first line: 00 01 N, N 1 to 8
abbrev pub FirstLine : Line → ℕ → Type 0
FirstLine l n = (NotOneToMost n → ⊥) × (l ≡ ended (as_hex (0x00 ∷ 0x01 ∷ n ∷ [])))

-- 01 and 1 to 32 samples, none above 7
abbrev pub SamplesLine : Line → Type 0
SamplesLine l = (ss : List ℕ) × (1 ≤ length ss) × (length ss ≤ 32) × AllBelow 8 ss × (l ≡ ended (as_hex (0x01 ∷ ss)))

-- 02, a chip below N, 8 scan bytes
abbrev pub ScanLine : ℕ → Line → Type 0
ScanLine n l =
    (k : ℕ) × (bytes : List ℕ) × (k < n) × (length bytes ≡ 8) × AllBelow 256 bytes × (l ≡ ended (as_hex (0x02 ∷ k ∷ bytes)))

-- a line after the first, which gave N
abbrev pub OtherLine : Line → Line → Type 0
OtherLine first l = SamplesLine l ⊎ ((n : ℕ) × FirstLine first n × ScanLine n l)

-- ---- the table of a text

-- 10: a line after the first isn't of the form above
abbrev pub line_row : Line → ℕ → Line → List Row
line_row first number l = names 10 number (OtherLine first l → ⊥) ∷ []

-- 10, the first missing included; lines are numbered from 1
abbrev pub line_rows : List Line → List Row
line_rows [] = names 10 1 (Unit {0}) ∷ []
line_rows (first ∷ ls) = names 10 1 (((n : ℕ) × FirstLine first n) → ⊥) ∷ each (line_row first) 2 ls

-- capture::replay and capture::screen: 11 before any other, then the lines from the first on
abbrev pub text_table : List ℕ → List Row
text_table text = row 11 (65536 < length text) ∷ line_rows (lines_of text)

-- ---- what an output tells

-- a line of an output tells a refusal where it begins with 1F: the number, and a line's number in four bytes, high first
abbrev pub line_tells : List ℕ → Told (Unit {0})
line_tells bytes =
    pick (eqb (get_or bytes 0 0) 0x1F)
    (refused (get_or bytes 1 0) (((get_or bytes 2 0 * 256 + get_or bytes 3 0) * 256 + get_or bytes 4 0) * 256 + get_or bytes 5 0)) (done tt)

-- an output tells what its last line does
abbrev pub output_tells : List Line → Told (Unit {0})
output_tells [] = done tt
output_tells (l ∷ []) = line_tells (bytes_in l)
output_tells (l ∷ m ∷ ls) = output_tells (m ∷ ls)

-- what a text's lines before a line wrote; the first line writes nothing
abbrev pub wrote_before : Report → List ℕ → ℕ → List ℕ
wrote_before what text line = wrote what (chips_in (first_in (lines_of text))) start_chain (take (line - 2) (drop 1 (lines_of text)))

-- the output of a text: what its lines wrote, up to the first that is refused, and then that refusal
pub record Output (what : Report) (text : List ℕ) : Type 0 where
  pub refusal : (number line : ℕ) → First (text_table text) number line
      → output_of what text ≡ wrote_before what text line ++ refusal_line number line
  pub answer : None (text_table text) → output_of what text ≡ wrote what (chips_in (first_in (lines_of text))) start_chain (drop 1 (lines_of text))
