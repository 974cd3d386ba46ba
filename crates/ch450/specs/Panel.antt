-- Document 02, C-15: the parts of a CH450; what a run can hold, for refusal 12; a panel at power-on; the segments lit; a panel with one
-- part exchanged.
-- Assumes nothing.
use Rattle.std.specs.Prelude.{ℕ, ◌%◌, ◌^◌, Bool, false, not, ◌&&◌, ◌||◌, List, [], ◌∷◌, eqb, leb, ltb}
use Rattle.base.specs.Bits.{bit_value}
use Rattle.base.specs.Pick.{pick}
use Rattle.ch450.specs.declared.Wires.{Wires}
use Rattle.ch450.specs.declared.Settings.{Settings}
use Rattle.ch450.specs.declared.Panel.{Panel}
use Rattle.ch450.specs.Edges.{scl, sda, idle, at_rest}

-- what a stop alone can change: settings and digits
pub record Body : Type 0 where
  pub settings : Settings
  pub digits : List ℕ

abbrev pub body_of : Panel → Body
body_of p = record { settings = p.settings; digits = p.digits }

-- ---- what a run can hold

-- while SCL is high, SDA is the bit taken last; after a start, before any, it is low
abbrev pub last_bit : ℕ → ℕ → Bool
last_bit levels bits = not (scl levels) || eqb (bits % 2) (bit_value (sda levels))

-- of so many rises the last 19 bits are kept
abbrev pub kept_of : ℕ → ℕ
kept_of rises = pick (leb rises 19) rises 19

-- a running transfer: at most 20 rises are counted, and the bits kept are no more
unfoldable pub valid_transfer : Wires → Bool
valid_transfer w = leb w.rises 20 && ltb w.bits (2 ^ kept_of w.rises) && last_bit w.levels w.bits

-- levels above 3 no wires have; where no transfer runs, no rise and no bit is kept
unfoldable pub valid_wires : Wires → Bool
valid_wires w = leb w.levels 3 && pick w.running (valid_transfer w) (eqb w.rises 0 && eqb w.bits 0)

-- every part is what a run can hold; INTENS has two bits
unfoldable pub valid : Panel → Bool
valid p = valid_wires p.wires && leb p.settings.intens 3

-- ---- power-on

-- awake, every parameter 0
abbrev pub no_settings : Settings
no_settings = record { sleep = false; intens = 0; keyb = false; disp = false }

-- idle lines, and the digits that the caller says
abbrev pub power_on : List ℕ → Panel
power_on digits = record { wires = at_rest idle; settings = no_settings; digits = digits }

-- ---- the segments lit

-- six digits of 00H
abbrev pub dark : List ℕ
dark = 0 ∷ 0 ∷ 0 ∷ 0 ∷ 0 ∷ 0 ∷ []

-- nothing while asleep or the display is off, else the data bytes, DIG2 first
unfoldable pub lit_of : Panel → List ℕ
lit_of p = pick p.settings.sleep dark (pick p.settings.disp p.digits dark)

-- ---- a panel with one part exchanged

abbrev pub with_wires : Wires → Panel → Panel
with_wires w p = record { wires = w; settings = p.settings; digits = p.digits }

abbrev pub with_settings : Settings → Panel → Panel
with_settings s p = record { wires = p.wires; settings = s; digits = p.digits }

abbrev pub with_digits : List ℕ → Panel → Panel
with_digits ds p = record { wires = p.wires; settings = p.settings; digits = ds }
