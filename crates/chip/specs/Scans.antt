-- Document 01, "Key scans": a scan's result, what the scan does to a chip, and what it records.
-- Assumes nothing.
use Rattle.std.specs.Prelude.{ℕ, zero, suc, ◌+◌, ◌-◌, ◌*◌, ◌/◌, ◌%◌, Bool, true, false, not, ◌&&◌, List, eqb, ltb, get_or}
use Rattle.base.specs.Pick.{pick}
use Rattle.base.specs.Bits.{bit, bit_value}
use Rattle.chip.specs.declared.Keys.{Keys}
use Rattle.chip.specs.declared.Chip.{Chip}
use Rattle.chip.specs.declared.scans.AfterScan.{AfterScan}
use Rattle.chip.specs.declared.Recorded.{Recorded}
use Rattle.chip.specs.declared.Recorded.TheVariants.{Nothing, Key, OverUnread, Released}
use Rattle.chip.specs.Record.{none, with_keys, with_sleeping, with_last}

-- what a scan records: nothing; a code; a code over an unread one, where an interrupt stood; or that bit 6 went from 1 to 0
pub data Recording : Type 0 where
  nothing : Recording
  key_code : ℕ → Recording
  over_unread : ℕ → Recording
  release_noted : Recording

-- the value of each case of the answer
abbrev pub recording_of : Recorded → Recording
recording_of Nothing = nothing
recording_of (Key code) = key_code code
recording_of (OverUnread code) = over_unread code
recording_of Released = release_noted

-- byte d, bit s is the contact of DIG d and SEG s, whose address is 8·s + d
abbrev pub closed : List ℕ → ℕ → Bool
closed bytes addr = bit (get_or bytes (addr % 8) 0) (addr / 8)

-- the first closed address of the next so many, or the address past them
unfoldable pub first_closed : List ℕ → ℕ → ℕ → ℕ
first_closed bytes zero addr = addr
first_closed bytes (suc more) addr = pick (closed bytes addr) addr (first_closed bytes more (suc addr))

-- the smallest closed address, or none
unfoldable pub result : List ℕ → ℕ
result bytes = first_closed bytes 64 0

-- a contact on SEG0 to SEG3: the addresses below 8·4
abbrev pub wakes : ℕ → Bool
wakes r = ltb r 32

-- the code of a key: 40H + its address
abbrev pub code_of : ℕ → ℕ
code_of addr = 0x40 + addr

-- bit 6 of a code cleared
abbrev pub released : ℕ → ℕ
released code = code - 0x40 * bit_value (bit code 6)

-- result and last scan are the same address, and its code isn't held already
abbrev pub new_key : ℕ → Keys → Bool
new_key r k = eqb r k.last && not (eqb r none) && not (eqb k.code (code_of r))

-- result and last scan are both none
abbrev pub both_none : ℕ → Keys → Bool
both_none r k = eqb r none && eqb k.last none

-- what a scan with a result does to the key record of a chip that is awake with KEYB on
abbrev pub keyed : ℕ → Keys → Keys
keyed r k =
    record {
      code = pick (new_key r k) (code_of r) (pick (both_none r k) (released k.code) k.code);
      interrupt = pick (new_key r k) true k.interrupt;
      last = r;
    }

-- asleep: a contact on SEG0 to SEG3 wakes the chip, and the last scan becomes none; otherwise nothing happens
abbrev pub scanned_asleep : ℕ → Chip → Chip
scanned_asleep r c =
    pick (wakes r)
    (with_sleeping false (with_last none c))
    c

-- what a scan with a result does to a chip; awake with KEYB off: nothing
unfoldable pub scanned_by : ℕ → Chip → Chip
scanned_by r c =
    pick c.settings.sleeping (scanned_asleep r c)
    (pick c.settings.system.keyb (with_keys (keyed r c.keys) c) c)

-- a code that is recorded: over an unread one, where an interrupt stood before the scan
abbrev pub code_taken : Bool → ℕ → Recording
code_taken stood code = pick stood (over_unread code) (key_code code)

-- on a chip that is awake with KEYB on: a new key's code; release, where both are none and bit 6 is 1; else nothing
abbrev pub keys_record : ℕ → Keys → Recording
keys_record r k =
    pick (new_key r k) (code_taken k.interrupt (code_of r))
    (pick (both_none r k && bit k.code 6) release_noted nothing)

-- what a scan with a result records: asleep or with KEYB off nothing
unfoldable pub recorded_by : ℕ → Chip → Recording
recorded_by r c = pick (not c.settings.sleeping && c.settings.system.keyb) (keys_record r c.keys) nothing

abbrev pub scanned : List ℕ → Chip → Chip
scanned bytes c = scanned_by (result bytes) c

abbrev pub recorded : List ℕ → Chip → Recording
recorded bytes c = recorded_by (result bytes) c

-- a chip after a scan, and what the scan recorded
pub record ScanLeaves : Type 0 where
  pub chip : Chip
  pub recorded : Recording

-- what the step that takes a scan answers
abbrev pub leaves_of : AfterScan → ScanLeaves
leaves_of t = record { chip = t.chip; recorded = recording_of t.recorded }

-- the step that takes a scan
abbrev pub scan_leaves : List ℕ → Chip → ScanLeaves
scan_leaves bytes c = record { chip = scanned bytes c; recorded = recorded bytes c }
