-- CH452 panels as numbers, and which number stands where in the answers of the five functions for a panel. Answers are as in
-- specs/Numbers.antt; a panel is lent as 202 numbers: N, the levels last played, then 25 for each of eight chips.
-- Assumes nothing.
use Rattle.std.specs.Prelude.{◌≡◌, ℕ, zero, suc, ◌+◌, ◌*◌, ◌%◌, Bool, false, ◌&&◌, List, [], ◌∷◌, ◌++◌, eqb, leb, ltb, get_or, drop}
use Rattle.base.specs.Below.{below}
use Rattle.base.specs.Bits.{bit_value}
use Rattle.base.specs.Lent.{laid}
use Rattle.base.specs.Pick.{pick}
use Rattle.base.specs.Refusals.{Told, done, refused, Outcome, once_tested}
use Rattle.chip.specs.declared.Chip.{Chip}
use Rattle.chip.specs.declared.Keys.{Keys}
use Rattle.chip.specs.declared.LineParts.{LineParts}
use Rattle.chip.specs.declared.Settings.{Settings}
use Rattle.chip.specs.Record.{blank, reset_chip}
use Rattle.chip.specs.Scans.{Recording, nothing, key_code, over_unread, release_noted}
use Rattle.chain.specs.declared.Chain.{Chain}
use Rattle.chain.specs.Blocks.{block_of, rises_in, list_by}
use Rattle.chain.specs.Chain.{most, chip_count}
use Rattle.chain.specs.Entries.{started_of, scanned_of, segments_of, seen_of}
use Rattle.zhaqsumir.specs.Numbers.{number_in, place_in, alone}
use Rattle.zhaqsumir.specs.TwoWires.{lit_by}

-- ---- a chip as 25 numbers: register, latch, the readout's code and bits left; INTM, SSPD, DPLR, KEYB, DISP, MODE, LIMIT, blink byte,
-- custom character, sleeping; DIG0 to DIG7; key code, interrupt, last scan

-- the most that each of them can be: what the record's field holds
abbrev pub chip_mosts : List ℕ
chip_mosts =
    65535 ∷ 1 ∷ 255 ∷ 255 ∷ 1 ∷ 1 ∷ 1 ∷ 1 ∷ 1 ∷ 1 ∷ 255 ∷ 255 ∷ 255 ∷ 1 ∷ 255 ∷ 255 ∷ 255 ∷ 255 ∷ 255 ∷ 255 ∷ 255 ∷ 255 ∷ 255 ∷ 1 ∷ 255 ∷ []

-- the number at a place is no more than that
abbrev pub chip_fits_at : List ℕ → ℕ → Bool
chip_fits_at ns j = leb (get_or ns j 0) (get_or chip_mosts j 0)

-- so is each of the 25
unfoldable pub chip_fits : List ℕ → Bool
chip_fits ns = below (chip_fits_at ns) 25

-- the byte at a place; of a number that fits nothing is cut
abbrev pub byte_at : List ℕ → ℕ → ℕ
byte_at ns j = get_or ns j 0 % 256

-- the bit at a place: 1 or not
abbrev pub bit_at : List ℕ → ℕ → Bool
bit_at ns j = eqb (get_or ns j 0) 1

-- the record that the numbers at the front of a list stand for, by parts; line parts: numbers 0 to 3
abbrev pub line_of : List ℕ → LineParts
line_of ns = record { register = get_or ns 0 0 % 65536; latch = bit_at ns 1; readout = record { code = byte_at ns 2; left = byte_at ns 3 } }

-- settings: numbers 4 to 13
abbrev pub settings_of : List ℕ → Settings
settings_of ns =
    record {
      system = record { intm = bit_at ns 4; sspd = bit_at ns 5; dplr = bit_at ns 6; keyb = bit_at ns 7; disp = bit_at ns 8 };
      display = record { mode = bit_at ns 9; limit = byte_at ns 10 };
      blink = byte_at ns 11;
      custom = byte_at ns 12;
      sleeping = bit_at ns 13;
    }

-- digits: numbers 14 to 21
abbrev pub digits_of : List ℕ → List ℕ
digits_of ns =
    byte_at ns 14 ∷ byte_at ns 15 ∷ byte_at ns 16 ∷ byte_at ns 17 ∷ byte_at ns 18 ∷ byte_at ns 19 ∷ byte_at ns 20 ∷ byte_at ns 21 ∷ []

-- key record: numbers 22 to 24
abbrev pub keys_of : List ℕ → Keys
keys_of ns = record { code = byte_at ns 22; interrupt = bit_at ns 23; last = byte_at ns 24 }

-- all four
unfoldable pub chip_of : List ℕ → Chip
chip_of ns = record { line = line_of ns; settings = settings_of ns; digits = digits_of ns; keys = keys_of ns }

-- the numbers of a record
unfoldable pub record_numbers : Chip → List ℕ
record_numbers c =
    c.line.register
    ∷ bit_value c.line.latch
    ∷ c.line.readout.code
    ∷ c.line.readout.left
    ∷ bit_value c.settings.system.intm
    ∷ bit_value c.settings.system.sspd
    ∷ bit_value c.settings.system.dplr
    ∷ bit_value c.settings.system.keyb
    ∷ bit_value c.settings.system.disp
    ∷ bit_value c.settings.display.mode
    ∷ c.settings.display.limit
    ∷ c.settings.blink
    ∷ c.settings.custom
    ∷ bit_value c.settings.sleeping
    ∷ (c.digits ++ (c.keys.code ∷ bit_value c.keys.interrupt ∷ c.keys.last ∷ []))

-- ---- a panel as 202 numbers: N, the levels, eight chips

-- the numbers of chip k, and all after them
abbrev pub from_chip : ℕ → List ℕ → List ℕ
from_chip k ns = drop (2 + 25 * k) ns

-- N
abbrev pub count_in : List ℕ → ℕ
count_in ns = get_or ns 0 0

-- the numbers of chip k fit
abbrev pub chip_fits_in : List ℕ → ℕ → Bool
chip_fits_in ns k = chip_fits (from_chip k ns)

-- N is 1 to 8, and the levels and each number of a chip below N are what a record can hold: refusals 3, 12. Whether a chain takes
-- the record is the chain's own test
unfoldable pub tested_in : List ℕ → Told (Unit {0})
tested_in ns =
    pick (chip_count (count_in ns))
    (pick (leb (get_or ns 1 0) 255 && below (chip_fits_in ns) (count_in ns)) (done tt) (refused 12 0))
    (refused 3 0)

-- chip k; from N on a reset chip, whose numbers are not looked at
abbrev pub record_in : List ℕ → ℕ → Chip
record_in ns k = pick (ltb k (count_in ns)) (chip_of (from_chip k ns)) reset_chip

-- the chain that the numbers stand for
unfoldable pub chain_of : List ℕ → Chain
chain_of ns =
    record {
      chips = record_in ns 0 ∷ record_in ns 1 ∷ record_in ns 2 ∷ record_in ns 3 ∷ record_in ns 4 ∷ record_in ns 5 ∷ record_in ns 6 ∷ record_in ns 7 ∷ [];
      levels = byte_at ns 1;
    }

-- the numbers of the first so many records
unfoldable pub row_numbers : ℕ → List Chip → List ℕ
row_numbers zero cs = []
row_numbers (suc n) [] = []
row_numbers (suc n) (c ∷ cs) = record_numbers c ++ row_numbers n cs

-- N, the levels, and those
abbrev pub chain_numbers : ℕ → ℕ → Chain → List ℕ
chain_numbers n count ch = n ∷ ch.levels ∷ row_numbers count ch.chips

-- a panel's 202 numbers after an entry, where its first numbers become these; as they were where it refuses
abbrev pub panel_by : {A : Type 0} → Told A → List ℕ → List ℕ → List ℕ
panel_by (done answer) first ns = laid first ns
panel_by (refused number place) first ns = ns

-- ---- start: number, place; all eight chips are set

-- what `zhaqsumir_start` does, where `ns` are the numbers lent: its answer, and the panel's numbers
pub record StartsNumbers (n : ℕ) (ns : List ℕ) (answer ns' : List ℕ) : Type 0 where
  pub numbers : answer ≡ number_in (started_of n).told ∷ place_in (started_of n).told ∷ []
  pub panel : ns' ≡ panel_by (started_of n).told (chain_numbers n most (started_of n).state) ns

-- ---- block: number, place, how many LOAD rises; their places in a list of their own

-- a block of samples played into the panel that was lent: refusals 3, 12, 1, 8
abbrev pub block_in : List ℕ → List ℕ → List ℕ → Outcome Chain ℕ
block_in ns ss list = once_tested (tested_in ns) (chain_of ns) (block_of (count_in ns) (chain_of ns) ss list)

-- what `zhaqsumir_block` does, where `ns` are the panel's numbers before it: its answer, the panel's numbers, and the list
pub record BlocksNumbers (ns ss list : List ℕ) (answer ns' list' : List ℕ) : Type 0 where
  pub numbers : answer ≡ alone (block_in ns ss list).told
  pub panel : ns' ≡ panel_by (block_in ns ss list).told (chain_numbers (count_in ns) (count_in ns) (block_in ns ss list).state) ns
  pub places : list' ≡ list_by (block_in ns ss list).told (rises_in (chain_of ns) ss) list

-- ---- scan: number, place, what was recorded, its code

-- 0 nothing, 1 a key's code, 2 a code over an unread one, 3 release noted
abbrev pub what_of : Recording → ℕ
what_of nothing = 0
what_of (key_code code) = 1
what_of (over_unread code) = 2
what_of release_noted = 3

-- the code recorded, or 0
abbrev pub code_in : Recording → ℕ
code_in nothing = 0
code_in (key_code code) = code
code_in (over_unread code) = code
code_in release_noted = 0

-- which of those, and its code; zeros where refused
abbrev pub scan_by : Told Recording → List ℕ
scan_by (done what) = 0 ∷ 0 ∷ what_of what ∷ code_in what ∷ []
scan_by (refused number place) = number ∷ place ∷ 0 ∷ 0 ∷ []

-- chip k of the panel that was lent scanned: refusals 3, 12, 2
abbrev pub scanned_in : List ℕ → ℕ → List ℕ → Outcome Chain Recording
scanned_in ns k bytes = once_tested (tested_in ns) (chain_of ns) (scanned_of (count_in ns) (chain_of ns) k bytes)

-- what `zhaqsumir_scan` does, where `ns` are the panel's numbers before it: its answer, and the panel's numbers
pub record ScansNumbers (ns : List ℕ) (k : ℕ) (bytes : List ℕ) (answer ns' : List ℕ) : Type 0 where
  pub numbers : answer ≡ scan_by (scanned_in ns k bytes).told
  pub panel : ns' ≡ panel_by (scanned_in ns k bytes).told (chain_numbers (count_in ns) (count_in ns) (scanned_in ns k bytes).state) ns

-- ---- lit: number, place, eight bytes of segments

-- what `zhaqsumir_lit` answers of chip k: refusals 3, 12, 2
abbrev pub lit_numbers : List ℕ → ℕ → List ℕ
lit_numbers ns k = lit_by (once_tested (tested_in ns) blank (segments_of (count_in ns) (chain_of ns) k))

-- ---- sees: number, place, the level of the last chip's DOUT

-- the level, 0 where refused
abbrev pub sees_by : Outcome Bool (Unit {0}) → List ℕ
sees_by o = number_in o.told ∷ place_in o.told ∷ bit_value o.state ∷ []

-- what `zhaqsumir_sees` answers: refusals 3, 12
abbrev pub sees_numbers : List ℕ → List ℕ
sees_numbers ns = sees_by (once_tested (tested_in ns) false (seen_of (count_in ns) (chain_of ns)))
