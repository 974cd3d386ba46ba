-- The public entries of one chip, refusals and all: what each answers for every input.
-- Assumes nothing.
use Rattle.std.specs.Prelude.{ℕ, List, leb}
use Rattle.base.specs.Pick.{pick}
use Rattle.base.specs.Refusals.{Told, done, refused_by, Outcome, hands_back}
use Rattle.word.specs.declared.Command.{Command}
use Rattle.word.specs.Words.{legal}
use Rattle.chip.specs.declared.Chip.{Chip}
use Rattle.chip.specs.declared.Recorded.{Recorded}
use Rattle.chip.specs.Record.{valid, blank}
use Rattle.chip.specs.Commands.{applied}
use Rattle.chip.specs.Edges.{din, stepped}
use Rattle.chip.specs.Segments.{lit_of}
use Rattle.chip.specs.Scans.{Recording, recording_of, scanned, recorded}
use Rattle.std.specs.declared.result.Result.{Result}
use Rattle.std.specs.declared.result.Result.TheVariants.{Ok, Err}
use Rattle.base.specs.declared.Refusal.{Refusal}
use Rattle.base.specs.declared.Handed.{Handed}

-- a command applied directly: refusals 12, 9
unfoldable pub applied_of : Chip → Command → Outcome Chip (Unit {0})
applied_of c command =
    pick (valid c)
    (pick (legal command) (record { state = applied command c; told = done tt }) (hands_back c 9 0))
    (hands_back c 12 0)

-- one sample after given levels: refusals 12 (levels above 7 too), 1
unfoldable pub sampled_of : Chip → ℕ → ℕ → Outcome Chip (Unit {0})
sampled_of c levels sample =
    pick (valid c)
    (pick (leb levels 7)
    (pick (leb sample 7) (record { state = stepped levels sample (din sample) c; told = done tt }) (hands_back c 1 0))
    (hands_back c 12 0))
    (hands_back c 12 0)

-- what a scan's answer tells
abbrev pub scan_tells : Result Recorded Refusal → Told Recording
scan_tells (Ok what) = done (recording_of what)
scan_tells (Err e) = refused_by e

-- what a scan hands back, and what its answer tells
abbrev pub handed_scan : {S : Type 0} → Handed S Recorded → Outcome S Recording
handed_scan r = record { state = r.value; told = scan_tells r.answer }

-- one scan: refusal 12
unfoldable pub scanned_of : Chip → List ℕ → Outcome Chip Recording
scanned_of c bytes = pick (valid c) (record { state = scanned bytes c; told = done (recorded bytes c) }) (hands_back c 12 0)

-- the segments lit: refusal 12
unfoldable pub segments_of : Chip → Outcome (List ℕ) (Unit {0})
segments_of c = pick (valid c) (record { state = lit_of c; told = done tt }) (hands_back blank 12 0)
