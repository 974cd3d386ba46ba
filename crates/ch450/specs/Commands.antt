-- Document 02, C-15: what two bytes mean, a command's word, and what a command does.
-- Assumes nothing.
use Rattle.std.specs.Prelude.{ℕ, ◌+◌, ◌*◌, ◌-◌, ◌%◌, Bool, true, false, ◌&&◌, List, eqb, leb, set}
use Rattle.base.specs.Bits.{bit, bit_value, cut}
use Rattle.base.specs.Pick.{pick}
use Rattle.base.specs.Refusals.{Told, done, refused}
use Rattle.ch450.specs.declared.Settings.{Settings}
use Rattle.ch450.specs.declared.Panel.{Panel}
use Rattle.ch450.specs.declared.Wires.{Wires}
use Rattle.ch450.specs.declared.Command.{Command}
use Rattle.ch450.specs.declared.Command.TheVariants.{Parameters, LoadDigit, ReadKey}
use Rattle.ch450.specs.Edges.{completes, first_byte, second_byte}
use Rattle.ch450.specs.Panel.{with_settings, with_digits}
use Rattle.std.specs.declared.option.Option.{Option}
use Rattle.std.specs.declared.option.Option.TheVariants.{Some, None}

-- ---- a command's word: byte 1 · 256 + byte 2

-- DIG2 to DIG7
abbrev pub is_digit : ℕ → Bool
is_digit dig = leb 2 dig && leb dig 7

-- every field is in its range
abbrev pub legal : Command → Bool
legal (Parameters s) = leb s.intens 3
legal (LoadDigit dig byte) = is_digit dig
legal ReadKey = true

-- byte 2 of parameters: SLEEP, INTENS of two bits, 000, KEYB, DISP
abbrev pub parameter_byte : Settings → ℕ
parameter_byte s = 128 * bit_value s.sleep + 32 * s.intens + 2 * bit_value s.keyb + bit_value s.disp

-- 48H for parameters, 64H for DIG2 and two more for each next digit, 4FH for reading the key
abbrev pub word_of : Command → ℕ
word_of (Parameters s) = 256 * 0x48 + parameter_byte s
word_of (LoadDigit dig byte) = 256 * (0x60 + 2 * dig) + byte
word_of ReadKey = 256 * 0x4F

-- a command's word, or refusal 9
unfoldable pub encoded_of : Command → Told ℕ
encoded_of command = pick (legal command) (done (word_of command)) (refused 9 0)

-- ---- what two bytes mean

-- the parameters of a byte 2; bits 4 to 2 are ignored
abbrev pub settings_of : ℕ → Settings
settings_of byte = record { sleep = bit byte 7; intens = cut byte 5 2; keyb = bit byte 1; disp = bit byte 0 }

-- 64H to 6EH, even
abbrev pub is_digit_byte : ℕ → Bool
is_digit_byte byte = leb 0x64 byte && leb byte 0x6E && eqb (byte % 2) 0

-- others than these mean nothing
unfoldable pub meaning_of : ℕ → ℕ → (Option Command)
meaning_of first second =
    pick (eqb first 0x48) (Some (Parameters (settings_of second)))
    (pick (is_digit_byte first) (Some (LoadDigit (cut first 1 3) second)) (pick (eqb first 0x4F) (Some ReadKey) None))

-- what a word means, by its two bytes
abbrev pub word_means : ℕ → (Option Command)
word_means w = meaning_of (cut w 8 8) (cut w 0 8)

-- what a sample makes the panel do: at a stop that completes a command, what its bytes mean
unfoldable pub told_at : ℕ → Wires → (Option Command)
told_at now w = pick (completes now w) (meaning_of (first_byte w) (second_byte w)) None

-- the key is read
abbrev pub reads_key : Command → Bool
reads_key (Parameters s) = false
reads_key (LoadDigit dig byte) = false
reads_key ReadKey = true

abbrev pub is_read : Option Command → Bool
is_read (Some command) = reads_key command
is_read None = false

-- ---- what a command does

-- any obeyed command first clears SLEEP
abbrev pub woken : Panel → Panel
woken p =
    with_settings (record { sleep = false; intens = p.settings.intens; keyb = p.settings.keyb; disp = p.settings.disp }) p

-- DIG2's data byte is the first; there is no other digit than DIG2 to DIG7
abbrev pub with_digit : ℕ → ℕ → List ℕ → List ℕ
with_digit dig byte ds = pick (is_digit dig) (set ds (dig - 2) byte) ds

-- parameters are kept whole; a digit gets its byte; reading changes nothing
abbrev pub obey : Command → Panel → Panel
obey (Parameters s) p = with_settings s p
obey (LoadDigit dig byte) p = with_digits (with_digit dig byte p.digits) p
obey ReadKey p = p

-- a command applied directly
unfoldable pub applied : Command → Panel → Panel
applied command p = obey command (woken p)

-- an unknown byte 1 has no effect at all: it doesn't clear SLEEP either
abbrev pub obeyed : Option Command → Panel → Panel
obeyed (Some command) p = applied command p
obeyed None p = p
