-- A text of any length: the capture text of document 01 without its limit, by the same definitions.
-- Assumes nothing.
use Rattle.std.specs.Prelude.{ℕ, List, [], ◌++◌, length, take, nat_le}
use Rattle.base.specs.Pick.{pick}
use Rattle.base.specs.Refusals.{Told, done, refused}
use Rattle.lines.specs.Lines.{Line, lines_of}
use Rattle.capture.specs.declared.Report.{Report}
use Rattle.capture.specs.Reports.{refusal_line}
use Rattle.capture.specs.Replay.{all_out, all_end}

-- a text has at most 2^32 - 1 lines: a line's number has four bytes
abbrev pub most_lines : ℕ
most_lines = 0xFFFFFFFF

-- what is written where one more line begins: refusal 11, where none of those before it was refused
abbrev pub one_more : Told (Unit {0}) → List ℕ
one_more (done u) = refusal_line 11 0
one_more (refused number line) = []

-- the output of lines: of the first 2^32 - 1, and of what comes after them
unfoldable pub long_out : Report → List Line → List ℕ
long_out what ls = all_out what (take most_lines ls) ++ pick (nat_le (length ls) most_lines) [] (one_more (all_end (take most_lines ls)))

-- the output of a text
abbrev pub text_out : Report → List ℕ → List ℕ
text_out what text = long_out what (lines_of text)
