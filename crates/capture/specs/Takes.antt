-- What a line's frame, samples and a scan come to in a buffer of any length: taken, where the numbers given are in range and there is room
-- for whatever can be written; otherwise nothing is taken, as by refusal 8, and the chain is as it was. No entry's promise cites these.
-- Assumes nothing.
use Rattle.std.specs.Prelude.{ℕ, ◌+◌, ◌*◌, false, ◌&&◌, List, leb, length}
use Rattle.base.specs.Pick.{pick}
use Rattle.base.specs.Refusals.{Outcome, hands_back}
use Rattle.chain.specs.declared.Chain.{Chain}
use Rattle.chain.specs.Chain.{most}
use Rattle.lines.specs.declared.Frame.{Frame}
use Rattle.lines.specs.Answers.{held_by}
use Rattle.capture.specs.declared.Report.{Report}
use Rattle.capture.specs.declared.walk.Took.{Took}
use Rattle.capture.specs.Frames.{samples, scan, form_of}
use Rattle.capture.specs.Replay.{taken}

-- room for what any line writes: 33 bytes, of each a quarter of the most chips' longest lines for each of its two digits
abbrev pub line_room : ℕ
line_room = 2772

-- room for what one sample can write: half of the most chips' longest lines; and one sample more
abbrev pub sample_room : ℕ
sample_room = 84

-- room for what a scan writes: the longest line
abbrev pub scan_room : ℕ
scan_room = 21

-- what a frame holds, as a line after the first
abbrev pub line_where : Report → ℕ → Chain → Frame → ℕ → List ℕ → Outcome Chain (List ℕ)
line_where what n ch f at out =
    pick (leb n most && leb f.count 33 && leb (at + line_room) (length out)) (taken what n ch (form_of n (held_by f))) (hands_back ch 8 0)

-- samples, tested or not
abbrev pub samples_where : Report → ℕ → Chain → List ℕ → ℕ → List ℕ → Outcome Chain (List ℕ)
samples_where what n ch ss at out =
    pick (leb n most && leb (at + sample_room * (length ss + 1)) (length out)) (taken what n ch (samples ss)) (hands_back ch 8 0)

-- a scan of a chip
abbrev pub scan_where : Report → ℕ → Chain → ℕ → List ℕ → ℕ → List ℕ → Outcome Chain (List ℕ)
scan_where what n ch k bytes at out = pick (leb (at + scan_room) (length out)) (taken what n ch (scan k bytes)) (hands_back ch 8 0)

-- nothing was taken: the chain and the place as they were
abbrev pub untaken : Chain → ℕ → Took
untaken ch at = record { chain = ch; taken = false; at = at }
