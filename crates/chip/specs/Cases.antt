-- Document 01, "Cases": what P1 to P12 say of a chip. Each holds of any chip, unless the claim says which.
-- Assumes nothing.
use Rattle.std.specs.Prelude.{◌≡◌, Bool, true, false, List, [], ◌∷◌, ℕ, ◌≤◌, T, set}
use Rattle.chip.specs.declared.Chip.{Chip}
use Rattle.chip.specs.Record.{valid, reset_settings, reset_keys, blank}
use Rattle.chip.specs.Commands.{segment, dout, woken}
use Rattle.chip.specs.Edges.{din, idle, loaded, stepped}
use Rattle.chip.specs.Segments.{bcd}
use Rattle.chip.specs.Scans.{scanned}

-- what is said of any chip with a word in its register, and of that chip after a LOAD rise
abbrev pub AtLoad : ℕ → (Chip → Chip → Type 0) → Type 0
AtLoad word says = (c : Chip) → c.line.register ≡ word → says c (loaded c)

-- what is said of any chip that takes key scans: awake with KEYB on
abbrev pub Scanning : (Chip → Type 0) → Type 0
Scanning says = (c : Chip) → c.settings.sleeping ≡ false → c.settings.system.keyb ≡ true → says c

-- eight digits of FFH
abbrev pub all_lit : List ℕ
all_lit = 0xFF ∷ 0xFF ∷ 0xFF ∷ 0xFF ∷ 0xFF ∷ 0xFF ∷ 0xFF ∷ 0xFF ∷ []

-- the scan bytes of no contact
abbrev pub no_contact : List ℕ
no_contact = 0 ∷ 0 ∷ 0 ∷ 0 ∷ 0 ∷ 0 ∷ 0 ∷ 0 ∷ []

-- of DIG3 with SEG4, address 23H
abbrev pub key23 : List ℕ
key23 = 0 ∷ 0 ∷ 0 ∷ 0x10 ∷ 0 ∷ 0 ∷ 0 ∷ 0 ∷ []

-- of that together with DIG4 and SEG1, address 0CH
abbrev pub keys23and0_c : List ℕ
keys23and0_c = 0 ∷ 0 ∷ 0 ∷ 0x10 ∷ 0x02 ∷ 0 ∷ 0 ∷ 0 ∷ []

-- a chip alone after samples, from given levels
abbrev pub played : ℕ → List ℕ → Chip → Chip
played was [] c = c
played was (now ∷ samples) c = played now samples (stepped was now (din now) c)

-- DOUT after each of the samples
abbrev pub shown : ℕ → List ℕ → Chip → List Bool
shown was [] c = []
shown was (now ∷ samples) c = dout (stepped was now (din now) c) ∷ shown now samples (stepped was now (din now) c)

-- the bits 1, 1, 1, 0, then LOAD low
abbrev pub read_frame : List ℕ
read_frame = 5 ∷ 7 ∷ 5 ∷ 7 ∷ 5 ∷ 7 ∷ 4 ∷ 6 ∷ 3 ∷ []

-- nine clocks, each a DCLK fall and a rise
abbrev pub clocks : List ℕ
clocks = 5 ∷ 7 ∷ 5 ∷ 7 ∷ 5 ∷ 7 ∷ 5 ∷ 7 ∷ 5 ∷ 7 ∷ 5 ∷ 7 ∷ 5 ∷ 7 ∷ 5 ∷ 7 ∷ 5 ∷ 7 ∷ []

-- LOAD high, then clocks
abbrev pub load_and_clocks : List ℕ
load_and_clocks = 7 ∷ clocks

-- DOUT 1100011, then high: after the LOAD rise, and after the fall and the rise of each clock
abbrev pub read_levels : List Bool
read_levels =
    true
    ∷ true ∷ true
    ∷ false ∷ false
    ∷ false ∷ false
    ∷ false ∷ false
    ∷ true ∷ true
    ∷ true ∷ true
    ∷ true ∷ true
    ∷ true ∷ true
    ∷ true ∷ true
    ∷ []

-- every case that speaks of a chip
abbrev pub chip_cases : List (Type 0)
chip_cases =
    -- P1: 201H is reset; the register and the latch stay
    AtLoad 0x201 (λ c d. d.settings ≡ reset_settings)
    ∷ AtLoad 0x201 (λ c d. d.digits ≡ blank)
    ∷ AtLoad 0x201 (λ c d. d.keys ≡ reset_keys)
    ∷ AtLoad 0x201 (λ c d. d.line.readout.left ≡ 0)
    ∷ AtLoad 0x201 (λ c d. d.line.register ≡ c.line.register)
    ∷ AtLoad 0x201 (λ c d. d.line.latch ≡ c.line.latch)
    -- P2: A79H loads 79H in DIG2
    ∷ AtLoad 0xA79 (λ c d. d.digits ≡ set c.digits 2 0x79)
    -- P3: 1BAH clears DIG2 SEG7, address 3AH; FFH becomes 7FH
    ∷ AtLoad 0x1BA (λ c d. d.digits ≡ segment false 0x3A c.digits)
    ∷ (segment false 0x3A all_lit ≡ 0xFF ∷ 0xFF ∷ 0x7F ∷ 0xFF ∷ 0xFF ∷ 0xFF ∷ 0xFF ∷ 0xFF ∷ [])
    -- P4: 1C6H sets DIG6 SEG0, address 06H; 00H becomes 01H
    ∷ AtLoad 0x1C6 (λ c d. d.digits ≡ segment true 0x06 c.digits)
    ∷ (segment true 0x06 blank ≡ 0 ∷ 0 ∷ 0 ∷ 0 ∷ 0 ∷ 0 ∷ 0x01 ∷ 0 ∷ [])
    -- P5: 109H gives DIG0 03H, the others 01H
    ∷ AtLoad 0x109 (λ c d. d.digits ≡ 0x03 ∷ 0x01 ∷ 0x01 ∷ 0x01 ∷ 0x01 ∷ 0x01 ∷ 0x01 ∷ 0x01 ∷ [])
    -- P6: 140H gives all FFH; 141H lights all
    ∷ AtLoad 0x140 (λ c d. d.digits ≡ all_lit)
    ∷ AtLoad 0x141 (λ c d. d.digits ≡ all_lit)
    -- P7: 404H, unlisted, only wakes the chip and ends a readout; 403H turns KEYB and DISP on
    ∷ AtLoad 0x404 (λ c d. d ≡ woken c)
    ∷ AtLoad 0x403 (λ c d. d.settings.system ≡ record { intm = false; sspd = false; dplr = false; keyb = true; disp = true })
    -- P8: 590H is BCD with limit 1
    ∷ AtLoad 0x590 (λ c d. d.settings.display ≡ record { mode = true; limit = 1 })
    -- P9: digits 1 to 8 from DIG0, rotated left: DIG0 is 8, DIG1 is 1
    ∷ AtLoad 0x301 (λ c d. c.digits ≡ 1 ∷ 2 ∷ 3 ∷ 4 ∷ 5 ∷ 6 ∷ 7 ∷ 8 ∷ [] → d.digits ≡ 8 ∷ 1 ∷ 2 ∷ 3 ∷ 4 ∷ 5 ∷ 6 ∷ 7 ∷ [])
    -- P10: DIG3 with SEG4 in two scans gives 63H, two empty scans then 23H
    ∷ Scanning (λ c. (scanned key23 (scanned key23 c)).keys.code ≡ 0x63)
    ∷ Scanning (λ c. (scanned no_contact (scanned no_contact (scanned key23 (scanned key23 c)))).keys.code ≡ 0x23)
    -- P11: 23H and 0CH closed together give 4CH
    ∷ Scanning (λ c. (scanned keys23and0_c (scanned keys23and0_c c)).keys.code ≡ 0x4C)
    -- P12: with KEYB on and 63H held, bits 1, 1, 1, 0 then LOAD, then clocks: DOUT 1100011, then high
    ∷ ((c : Chip) → T (valid c) → c.settings.system.keyb ≡ true → c.keys.code ≡ 0x63
    → shown 3 load_and_clocks (played idle read_frame c) ≡ read_levels)
    -- MODE 1: 1AH lights nothing, 9AH the point alone, and 1EH the custom character
    ∷ ((custom : ℕ) → bcd custom 0x1A ≡ 0)
    ∷ ((custom : ℕ) → bcd custom 0x9A ≡ 0x80)
    ∷ ((custom : ℕ) → custom ≤ 127 → bcd custom 0x1E ≡ custom)
    ∷ []
