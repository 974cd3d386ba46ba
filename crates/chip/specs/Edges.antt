-- Document 01, "Samples and edges": what one sample does to one chip, given the levels before it and what stands at its DIN.
-- Assumes nothing.
use Rattle.std.specs.Prelude.{ℕ, ◌+◌, ◌*◌, ◌-◌, ◌/◌, Bool, not, ◌&&◌}
use Rattle.base.specs.Pick.{pick}
use Rattle.base.specs.Bits.{bit, bit_value}
use Rattle.word.specs.Words.{decoded_of}
use Rattle.chip.specs.declared.LineParts.{LineParts}
use Rattle.chip.specs.declared.Chip.{Chip}
use Rattle.chip.specs.Record.{with_line}
use Rattle.chip.specs.Commands.{applied_word}

-- a sample is DIN + 2·DCLK + 4·LOAD
abbrev pub din : ℕ → Bool
din sample = bit sample 0

abbrev pub dclk : ℕ → Bool
dclk sample = bit sample 1

abbrev pub load : ℕ → Bool
load sample = bit sample 2

-- idle: all three wires high
abbrev pub idle : ℕ
idle = 7

-- an edge is a change from the previous sample
abbrev pub dclk_rises : ℕ → ℕ → Bool
dclk_rises was now = not (dclk was) && dclk now

abbrev pub dclk_falls : ℕ → ℕ → Bool
dclk_falls was now = dclk was && not (dclk now)

abbrev pub load_rises : ℕ → ℕ → Bool
load_rises was now = not (load was) && load now

-- the register moves down one place, its lowest bit is lost, DIN enters as bit 11
abbrev pub shifted : ℕ → Bool → ℕ
shifted register d = register / 2 + 2048 * bit_value d

-- DCLK rise
abbrev pub clocked_in : Bool → LineParts → LineParts
clocked_in d l = record { register = shifted l.register d; latch = l.latch; readout = l.readout }

-- DCLK fall: the latch takes register bit 0; a running readout moves on, over when no bits are left
abbrev pub clocked_out : LineParts → LineParts
clocked_out l =
    record {
      register = l.register;
      latch = bit l.register 0;
      readout = record { code = l.readout.code; left = l.readout.left - 1 };
    }

-- what DCLK does to the line parts
unfoldable pub clocked : ℕ → ℕ → Bool → LineParts → LineParts
clocked was now d l = pick (dclk_falls was now) (clocked_out l) (pick (dclk_rises was now) (clocked_in d l) l)

-- LOAD rise: the register is obeyed as a command, whatever it holds
unfoldable pub loaded : Chip → Chip
loaded c = applied_word (decoded_of c.line.register) c

-- one sample: DCLK's edge, then LOAD's rise; a LOAD fall does nothing
unfoldable pub stepped : ℕ → ℕ → Bool → Chip → Chip
stepped was now d c =
    let e = with_line (clocked was now d c.line) c in
    pick (load_rises was now) (loaded e) e
