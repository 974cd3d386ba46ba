-- Document 02, C-15: what one sample does to the two wires: starts, stops, and the bits taken at SCL rises.
-- Assumes nothing.
use Rattle.std.specs.Prelude.{ℕ, suc, ◌+◌, ◌*◌, ◌%◌, ◌^◌, Bool, true, false, not, ◌&&◌, eqb, ltb}
use Rattle.base.specs.Bits.{bit, bit_value, cut}
use Rattle.base.specs.Pick.{pick}
use Rattle.ch450.specs.declared.Wires.{Wires}

-- ---- samples

-- a sample is SCL + 2·SDA
abbrev pub scl : ℕ → Bool
scl sample = bit sample 0

abbrev pub sda : ℕ → Bool
sda sample = bit sample 1

-- idle: both wires high
abbrev pub idle : ℕ
idle = 3

-- ---- edges

-- a clock edge, whatever SDA does: where both lines change there is no start and no stop
abbrev pub scl_rises : ℕ → ℕ → Bool
scl_rises was now = not (scl was) && scl now

abbrev pub stays_high : ℕ → ℕ → Bool
stays_high was now = scl was && scl now

-- SDA falling while SCL stays high starts a transfer
abbrev pub starts : ℕ → ℕ → Bool
starts was now = stays_high was now && sda was && not (sda now)

-- rising while it stays high ends it
abbrev pub stops : ℕ → ℕ → Bool
stops was now = stays_high was now && not (sda was) && sda now

-- ---- the wires after a sample

-- no transfer runs: rises don't count
abbrev pub at_rest : ℕ → Wires
at_rest levels = record { levels = levels; running = false; rises = 0; bits = 0 }

-- a new start drops what came before
abbrev pub begun : ℕ → Wires
begun levels = record { levels = levels; running = true; rises = 0; bits = 0 }

-- one rise more; above 19 they need not be told apart
abbrev pub one_more : ℕ → ℕ
one_more rises = pick (ltb rises 20) (suc rises) rises

-- a bit enters below those taken before, high first; of them the last 19 are kept
abbrev pub moved_up : ℕ → Bool → ℕ
moved_up bits b = (2 * bits + bit_value b) % 2 ^ 19

-- bits are taken at SCL rises while a transfer runs
abbrev pub takes : ℕ → Wires → Bool
takes now w = w.running && scl_rises w.levels now

-- the bit is SDA of the new sample
abbrev pub taken : ℕ → Wires → Wires
taken now w = record { levels = now; running = true; rises = one_more w.rises; bits = moved_up w.bits (sda now) }

-- only the levels are new
abbrev pub seen : ℕ → Wires → Wires
seen now w = record { levels = now; running = w.running; rises = w.rises; bits = w.bits }

-- one sample
unfoldable pub stepped : ℕ → Wires → Wires
stepped now w =
    pick (starts w.levels now) (begun now)
    (pick (stops w.levels now) (at_rest now) (pick (takes now w) (taken now w) (seen now w)))

-- ---- a transfer completed

-- a stop when exactly 19 rises came since the start
unfoldable pub completes : ℕ → Wires → Bool
completes now w = w.running && eqb w.rises 19 && stops w.levels now

-- the 19 bits are byte 1, acknowledge, byte 2, acknowledge, and the rise for the stop; only the bytes carry data
abbrev pub first_byte : Wires → ℕ
first_byte w = cut w.bits 11 8

abbrev pub second_byte : Wires → ℕ
second_byte w = cut w.bits 2 8
