-- The public entries on a chain, refusals and all: what each answers for every input.
-- Assumes nothing.
use Rattle.std.specs.Prelude.{ℕ, ◌-◌, Bool, false, List, ltb, get_or, set, replicate}
use Rattle.base.specs.Pick.{pick}
use Rattle.base.specs.Refusals.{done, Outcome, hands_back, once_tested}
use Rattle.word.specs.declared.Command.{Command}
use Rattle.word.specs.Words.{legal}
use Rattle.chip.specs.declared.Chip.{Chip}
use Rattle.chip.specs.Record.{blank, reset_settings, reset_chip}
use Rattle.chip.specs.Commands.{applied, dout}
use Rattle.chip.specs.Edges.{idle}
use Rattle.chip.specs.Scans.{Recording, scanned, recorded}
use Rattle.chip.specs.Segments.{lit_of}
use Rattle.chain.specs.declared.Chain.{Chain}
use Rattle.chain.specs.Chain.{most, chip_count, checked_from, tested_of, played}

-- ---- start

-- a record of zeros
abbrev pub zero_chip : Chip
zero_chip =
    record {
      line = record { register = 0; latch = false; readout = record { code = 0; left = 0 } };
      settings = reset_settings;
      digits = blank;
      keys = record { code = 0; interrupt = false; last = 0 };
    }

abbrev pub zero_chain : Chain
zero_chain = record { chips = replicate most zero_chip; levels = 0 }

-- reset chips, and the wires idle
abbrev pub start_chain : Chain
start_chain = record { chips = replicate most reset_chip; levels = idle }

-- start: refusal 3
unfoldable pub started_of : ℕ → Outcome Chain (Unit {0})
started_of n = pick (chip_count n) (record { state = start_chain; told = done tt }) (hands_back zero_chain 3 0)

-- ---- play

-- a block of samples: refusals 3, 12, 1
unfoldable pub played_of : ℕ → Chain → List ℕ → Outcome Chain (Unit {0})
played_of n ch ss =
    once_tested (tested_of n ch) ch (once_tested (checked_from 0 ss) ch (record { state = played n ss ch; told = done tt }))

-- ---- one chip

abbrev pub chip_at : ℕ → Chain → Chip
chip_at k ch = get_or ch.chips k reset_chip

abbrev pub with_chip : ℕ → Chip → Chain → Chain
with_chip k c ch = record { chips = set ch.chips k c; levels = ch.levels }

-- one scan: refusals 3, 12, 2
unfoldable pub scanned_of : ℕ → Chain → ℕ → List ℕ → Outcome Chain Recording
scanned_of n ch k bytes =
    once_tested (tested_of n ch) ch
    (pick (ltb k n)
    (record { state = with_chip k (scanned bytes (chip_at k ch)) ch; told = done (recorded bytes (chip_at k ch)) })
    (hands_back ch 2 0))

-- a command applied directly: refusals 3, 12, 9, 2
unfoldable pub applied_of : ℕ → Chain → ℕ → Command → Outcome Chain (Unit {0})
applied_of n ch k command =
    once_tested (tested_of n ch) ch
    (pick (legal command)
    (pick (ltb k n) (record { state = with_chip k (applied command (chip_at k ch)) ch; told = done tt }) (hands_back ch 2 0))
    (hands_back ch 9 0))

-- the segments lit: refusals 3, 12, 2
unfoldable pub segments_of : ℕ → Chain → ℕ → Outcome (List ℕ) (Unit {0})
segments_of n ch k =
    once_tested (tested_of n ch) blank
    (pick (ltb k n) (record { state = lit_of (chip_at k ch); told = done tt }) (hands_back blank 2 0))

-- ---- what the host sees

-- the last chip's DOUT: refusals 3, 12
unfoldable pub seen_of : ℕ → Chain → Outcome Bool (Unit {0})
seen_of n ch = once_tested (tested_of n ch) false (record { state = dout (chip_at (n - 1) ch); told = done tt })
