-- The balance of a chip's counts.
--     balance         an interrupt that stood and every code recorded is read, overwritten, cleared or stands, whatever the chip
--     anyhow_fails    were read words counted with KEYB off too, it wouldn't be so
-- Assumes nothing.
use mathlib.Core.Path.{◌≡◌, refl, ap}
use mathlib.Core.Bool.{Bool, true, false, not, ◌&&◌}
use mathlib.Core.List.{[], ◌∷◌}
use Prim.Native.Nat.{ℕ, ◌+◌}
use native.Mathlib.Omega.{arith}
use Rattle.base.specs.Bits.{bit, bit_value}
use Rattle.base.specs.Pick.{pick}
use Rattle.base.proofs.Picks.{pick_cases}
use Rattle.word.specs.declared.Command.{Command}
use Rattle.word.specs.declared.Command.TheVariants.{NoOperation, BarLevel, SegmentClear, SegmentSet, Reset, Sleep, ShiftLeft, ShiftRight, RotateLeft, RotateRight, CustomCharacter, SystemParameters, DisplayParameters, BlinkByte, ReadKey, LoadDigit}
use Rattle.chip.specs.declared.Chip.{Chip}
use Rattle.chip.specs.declared.Keys.{Keys}
use Rattle.chip.specs.Record.{valid, none, with_system, with_interrupt, with_last, with_readout, ended_readout}
use Rattle.chip.specs.Commands.{applied, obey, reset, system, read_key, woken}
use Rattle.chip.specs.Scans.{nothing, release_noted, new_key, both_none, code_taken, code_of, keyed, keys_record, wakes, scanned_by, recorded_by, result}
use Rattle.chip.specs.History.{Step, told, scan, after}
use Rattle.chip.proofs.OneScan.{by_scan}
use Rattle.tallies.specs.declared.Counts.{Counts}
use Rattle.tallies.specs.Counts.{command_counts, record_counts, step_counts, counts_of}
use Rattle.tallies.specs.Balance.{standing, gone, Balances, read_anyhow, AnyhowFails}
use Rattle.tallies.proofs.Appends.{after_one}

-- one step: what stood, what it counts, what stands
abbrev Even : ℕ → Counts → ℕ → Type 0
Even before c later = before + c.recorded ≡ gone c + later

-- nothing is counted and nothing moves
still : (b : ℕ) → b + 0 ≡ 0 + 0 + 0 + b
still b = omega arith

-- an interrupt that stood is cleared
cleared_so : (stood : Bool) → bit_value stood + 0 ≡ 0 + 0 + bit_value stood + 0
cleared_so stood = omega arith

-- it is cleared where KEYB is put to 0
system_so : (keyb stood : Bool) (x y : Chip) → standing x ≡ bit_value stood → standing y ≡ 0
    → bit_value stood + 0 ≡ 0 + 0 + bit_value (not keyb && stood) + standing (pick keyb x y)
system_so true stood on off = omega arith
system_so false stood on off = omega arith

-- it is read where KEYB is 1
read_so : (keyb stood : Bool) (x y : Chip) → standing x ≡ 0 → standing y ≡ bit_value stood
    → bit_value stood + 0 ≡ bit_value (keyb && stood) + 0 + 0 + standing (pick keyb x y)
read_so true stood on off = omega arith
read_so false stood on off = omega arith

-- ---- commands

command_even : (command : Command) (c : Chip)
    → Even (standing c) (command_counts command c.settings.system.keyb c.keys.interrupt) (standing (obey command (woken c)))
unfolding obey reset system read_key
command_even NoOperation c = still (standing c)
command_even (BarLevel level) c = still (standing c)
command_even (SegmentClear addr) c = still (standing c)
command_even (SegmentSet addr) c = still (standing c)
command_even Reset c = cleared_so c.keys.interrupt
command_even Sleep c = still (standing c)
command_even ShiftLeft c = still (standing c)
command_even ShiftRight c = still (standing c)
command_even RotateLeft c = still (standing c)
command_even RotateRight c = still (standing c)
command_even (CustomCharacter shape) c = still (standing c)
command_even (SystemParameters s) c =
    let d = with_system s (woken c) in
    system_so s.keyb c.keys.interrupt d (ended_readout (with_last none (with_interrupt false d))) refl refl
command_even (DisplayParameters d) c = still (standing c)
command_even (BlinkByte byte) c = still (standing c)
command_even ReadKey c =
    let d = woken c in
    read_so c.settings.system.keyb c.keys.interrupt (with_interrupt false (with_readout c.keys.code 7 d)) d refl refl
command_even (LoadDigit dig byte) c = still (standing c)

-- ---- scans

-- awake with KEYB on: a new key's code stands, and one that stood before it is overwritten
keys_even : (r : ℕ) (k : Keys) → Even (bit_value k.interrupt) (record_counts (keys_record r k)) (bit_value (keyed r k).interrupt)
keys_even r k = by_tests (new_key r k) k.interrupt (both_none r k && bit k.code 6)
  where
    by_tests : (new stood let_go : Bool)
        → Even (bit_value stood) (record_counts (pick new (code_taken stood (code_of r)) (pick let_go release_noted nothing))) (bit_value (pick new true stood))
    by_tests true true let_go = refl
    by_tests true false let_go = refl
    by_tests false stood true = still (bit_value stood)
    by_tests false stood false = still (bit_value stood)

scan_even : (r : ℕ) (c : Chip) → Even (standing c) (record_counts (recorded_by r c)) (standing (scanned_by r c))
scan_even r c =
    by_scan (λ what d. Even (standing c) (record_counts what) (standing d)) r c
    (pick_cases (λ (x : Chip). Even (standing c) (record_counts nothing) (standing x)) (wakes r) (λ e. still (standing c)) (λ e. still (standing c)))
    (keys_even r c.keys)
    (still (standing c))

-- ---- histories

step_even : (step : Step) (c : Chip) → Even (standing c) (step_counts step c) (standing (after (step ∷ []) c))
unfolding applied
step_even (told command) c = command_even command c
step_even (scan bytes) c = scan_even (result bytes) c

pub balance : Balances
unfolding counts_of
balance [] c = still (standing c)
balance (step ∷ h) c =
    let one = step_even step c in
    let rest = balance h (after (step ∷ []) c) in
    let same = ap standing (after_one step h c) in
    omega arith

-- ---- the other reading

pub anyhow_fails : AnyhowFails
unfolding read_anyhow counts_of applied obey read_key valid
anyhow_fails = record { passes = refl; stood_or_recorded = refl; gone_or_stands = refl }
