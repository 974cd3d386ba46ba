-- The worked examples of the CH450's sheet, document 003, in one list. What they say of a panel holds of any that a run can hold, with
-- idle lines; one of 6.2 also asks that the display is on.
-- Assumes nothing.
use Rattle.std.specs.Prelude.{◌≡◌, Bool, true, false, List, [], ◌∷◌, ℕ, ◌+◌, ◌*◌, ◌≤◌, T, length, set, take}
use Rattle.base.specs.Bits.{bit_value}
use Rattle.base.specs.Refusals.{Outcome, done}
use Rattle.ch450.specs.declared.Panel.{Panel}
use Rattle.ch450.specs.declared.Settings.{Settings}
use Rattle.ch450.specs.declared.Command.TheVariants.{Parameters, LoadDigit, ReadKey}
use Rattle.ch450.specs.Edges.{idle}
use Rattle.ch450.specs.Panel.{valid, lit_of}
use Rattle.ch450.specs.Commands.{encoded_of}
use Rattle.ch450.specs.Samples.{played}
use Rattle.ch450.specs.Entries.{sampled_of, played_of}
use Rattle.ch450.specs.Written.{command_samples}
use Rattle.ch450.specs.Demand.{played_back}
use Rattle.std.specs.declared.option.Option.TheVariants.{Some}

-- what is said of any panel, and of what it comes to when a list is written into a buffer and played from there, with any key's code
abbrev pub Shows : List ℕ → (Panel → Outcome Panel ℕ → Type 0) → Type 0
Shows ws says =
    (p : Panel) (key : ℕ) (out : List ℕ) → T (valid p) → p.wires.levels ≡ idle → key ≤ 127 → 40 * length ws ≤ length out
    → says p (played_back p key ws out (40 * length ws))

-- what is said of any panel
abbrev pub AtIdle : (Panel → Type 0) → Type 0
AtIdle says = (p : Panel) → T (valid p) → p.wires.levels ≡ idle → says p

-- the display is on, nothing else
abbrev pub display_on : Settings
display_on = record { sleep = false; intens = 0; keyb = false; disp = true }

-- the sheet's figure in 5.5: 48H, acknowledge, 01H, acknowledge
abbrev pub figure : List ℕ
figure =
    1
    ∷ 0 ∷ 1 ∷ 2 ∷ 3 ∷ 0 ∷ 1 ∷ 0 ∷ 1 ∷ 2 ∷ 3 ∷ 0 ∷ 1 ∷ 0 ∷ 1 ∷ 0 ∷ 1
    ∷ 2 ∷ 3
    ∷ 0 ∷ 1 ∷ 0 ∷ 1 ∷ 0 ∷ 1 ∷ 0 ∷ 1 ∷ 0 ∷ 1 ∷ 0 ∷ 1 ∷ 0 ∷ 1 ∷ 2 ∷ 3
    ∷ 2 ∷ 3
    ∷ 0 ∷ 1 ∷ 3 ∷ []

-- E on DIG2, the others as they were
abbrev pub LetterE : Panel → Outcome Panel ℕ → Type 0
LetterE p r = lit_of r.state ≡ set p.digits 0 0x79

-- a key's code: bits 2 to 0 its DIG, bits 5 to 3 its SEG, bit 6 whether it is pressed
abbrev pub key_code : Bool → ℕ → ℕ → ℕ
key_code pressed dig seg = 64 * bit_value pressed + 8 * seg + dig

-- 4FH, the host holding SDA high while the code comes
abbrev pub reading : List ℕ
reading = command_samples 0x4FFF

-- the read is answered with a code at its stop, the last of its samples, and a block that has it counts one read
abbrev pub Reads : ℕ → Panel → Type 0
Reads code p = ((sampled_of (played (take 39 reading) p) code 3).told ≡ done (Some code)) × ((played_of p code reading).told ≡ done 1)

-- every case of the CH450
abbrev pub ch450_cases : List (Type 0)
ch450_cases =
    -- 5.5: the write of 48H, 01H, which turns the display on
    (encoded_of (Parameters display_on) ≡ done 0x4801)
    ∷ (command_samples 0x4801 ≡ figure)
    ∷ Shows (0x4801 ∷ []) (λ p r. r.told ≡ done 0)
    ∷ Shows (0x4801 ∷ []) (λ p r. r.state.settings ≡ display_on)
    ∷ Shows (0x4801 ∷ []) (λ p r. lit_of r.state ≡ p.digits)
    -- 6.2: 64H, 79H shows E, segments A, D, E, F and G, on DIG2
    ∷ (encoded_of (LoadDigit 2 0x79) ≡ done 0x6479)
    ∷ (0x79 ≡ 0x01 + 0x08 + 0x10 + 0x20 + 0x40)
    ∷ Shows (0x6479 ∷ []) (λ p r. p.settings.disp ≡ true → LetterE p r)
    ∷ Shows (0x4801 ∷ 0x6479 ∷ []) LetterE
    -- 5.3, 6.3: the key of DIG3 and SEG4 is 63H pressed and 23H let go, read by 4FH
    ∷ (encoded_of ReadKey ≡ done 0x4F00)
    ∷ (key_code true 3 4 ≡ 0x63)
    ∷ (key_code false 3 4 ≡ 0x23)
    ∷ AtIdle (Reads 0x63)
    ∷ AtIdle (Reads 0x23)
    ∷ []
