-- Commands to words and words back.
--     command_back      every legal command, its data byte a byte, comes back from its word
--     word_back         every word below 65,536 that means a command comes back from it, but for the bits that are ignored
--     meaning_legal     what such a word means is a legal command
-- Assumes nothing.
use mathlib.Core.Path.{◌≡◌, refl, ap, ap₂, subst, ◌∙◌}
use mathlib.Core.Bool.{Bool, true, ◌&&◌}
use Prim.Native.Nat.{ℕ, ◌+◌, ◌*◌, ◌-◌, ◌/◌, ◌%◌, ◌≤◌, ◌<◌}
use native.Mathlib.Omega.{arith}
use borrow.Author.Tests.{leb-true, le-leb, eq-eqb, ne_eqb}
use lib.Dec.{T, eqb, eqb→eq}
use Rattle.base.specs.Below.{below}
use Rattle.base.specs.Bits.{cut, bit_value}
use Rattle.base.specs.Pick.{pick}
use Rattle.base.proofs.Cuts.{bit_value_lt, bit_value_back, cut_lt}
use Rattle.base.proofs.Picks.{pick_yes, pick_no}
use Rattle.base.proofs.Tests.{is_true, and_left, and_right, at_below}
use Rattle.ch450.specs.Commands.{legal, parameter_byte, word_of, settings_of, meaning_of, word_means}
use Rattle.ch450.specs.declared.Settings.{Settings}
use Rattle.ch450.specs.declared.Command.{Command}
use Rattle.ch450.specs.declared.Command.TheVariants.{Parameters, LoadDigit, ReadKey}
use Rattle.ch450.proofs.Digits.{digit_range}
use Rattle.std.specs.declared.option.Option.{Option}
use Rattle.std.specs.declared.option.Option.TheVariants.{Some, None}

-- ---- commands to words and back

-- a data byte is a byte, as a command's own type has it
abbrev pub Held : Command → Type 0
Held (Parameters s) = Unit {0}
Held (LoadDigit dig byte) = byte < 256
Held ReadKey = Unit {0}

-- a bit is read back from the number that it is
bit_back : (b : Bool) (n : ℕ) → n ≡ bit_value b → eqb n 1 ≡ b
bit_back b n e = ap (λ (x : ℕ). eqb x 1) e ∙ bit_value_back b

-- parameters come back from their byte 2
settings_back : (s : Settings) → s.intens ≤ 3 → settings_of (parameter_byte s) ≡ s
settings_back s h =
    let a = bit_value_lt s.sleep in
    let b = bit_value_lt s.keyb in
    let c = bit_value_lt s.disp in
    let byte = parameter_byte s in
    let top : byte / 32 ≡ 4 * bit_value s.sleep + s.intens = omega arith in
    let intens : cut byte 5 2 ≡ s.intens = ap (λ (x : ℕ). x % 4) top ∙ omega arith in λ j. record {
      sleep = bit_back s.sleep (cut byte 7 1) (omega arith) j;
      intens = intens j;
      keyb = bit_back s.keyb (cut byte 1 1) (omega arith) j;
      disp = bit_back s.disp (cut byte 0 1) (omega arith) j;
    }

-- and so from their word
parameters_back : (s : Settings) → s.intens ≤ 3 → word_means (word_of (Parameters s)) ≡ Some (Parameters s)
unfolding meaning_of
parameters_back s h =
    let a = bit_value_lt s.sleep in
    let b = bit_value_lt s.keyb in
    let c = bit_value_lt s.disp in
    let w = word_of (Parameters s) in
    let byte : cut w 0 8 ≡ parameter_byte s = omega arith in
    pick_yes _ _ (eq-eqb (cut w 8 8) 0x48 (omega arith))
    ∙ ap (λ (x : ℕ). Some (Parameters (settings_of x))) byte
    ∙ ap (λ (t : Settings). Some (Parameters t)) (settings_back s h)

-- so does a digit
digit_back : (dig byte : ℕ) → 2 ≤ dig → dig ≤ 7 → byte < 256 → word_means (word_of (LoadDigit dig byte)) ≡ Some (LoadDigit dig byte)
unfolding meaning_of
digit_back dig byte h l m =
    let w = word_of (LoadDigit dig byte) in
    let first = cut w 8 8 in
    let d : cut first 1 3 ≡ dig = omega arith in
    let b : cut w 0 8 ≡ byte = omega arith in
    let known = ap₂ ◌&&◌ (ap₂ ◌&&◌ (le-leb 0x64 first (omega arith)) (le-leb first 0x6E (omega arith))) (eq-eqb (first % 2) 0 (omega arith)) in
    pick_no _ _ (ne_eqb first 0x48 (omega arith)) ∙ pick_yes _ _ known ∙ ap₂ (λ (x y : ℕ). Some (LoadDigit x y)) d b

pub command_back : (c : Command) → legal c ≡ true → Held c → word_means (word_of c) ≡ Some c
unfolding meaning_of
command_back (Parameters s) e t = parameters_back s (leb-true s.intens 3 e)
command_back (LoadDigit dig byte) e t = digit_back dig byte (digit_range dig e).0 (digit_range dig e).1 t
command_back ReadKey e t = refl

-- ---- words to commands and back

-- a word with the bits 0 that are ignored: bits 4 to 2 of parameters, all of byte 2 where the key is read
abbrev pub plain : ℕ → ℕ
plain w = pick (eqb (cut w 8 8) 0x48) (w - 4 * cut w 2 3) (pick (eqb (cut w 8 8) 0x4F) (w - cut w 0 8) w)

-- a test of what bytes mean, passed where they mean nothing
abbrev means : (Command → Bool) → (Option Command) → Bool
means f (Some c) = f c
means f None = true

-- a command is legal, and its word is this one but for the ignored bits
abbrev fits : ℕ → Command → Bool
fits w c = legal c && eqb (word_of c) (plain w)

-- the test of two bytes
abbrev pair : ℕ → ℕ → Bool
pair first second = means (fits (256 * first + second)) (meaning_of first second)

-- all pairs of bytes pass it
by_bytes : (w : ℕ) (c : Command) → w < 65536 → word_means w ≡ Some c → T (fits w c)
unfolding meaning_of
by_bytes w c h e =
    let first = cut w 8 8 in
    let second = cut w 0 8 in
    let whole : 256 * first + second ≡ w = omega arith in
    let passed = at_below (pair first) 256 (at_below (λ f. below (pair f) 256) 256 tt first (cut_lt w 8 8)) second (cut_lt w 0 8) in
    subst (λ (x : ℕ). T (fits x c)) whole (subst (λ (m : Option Command). T (means (fits (256 * first + second)) m)) e passed)

pub word_back : (w : ℕ) (c : Command) → w < 65536 → word_means w ≡ Some c → word_of c ≡ plain w
word_back w c h e = eqb→eq (word_of c) (plain w) (and_right (legal c) (eqb (word_of c) (plain w)) (by_bytes w c h e))

pub meaning_legal : (w : ℕ) (c : Command) → w < 65536 → word_means w ≡ Some c → legal c ≡ true
meaning_legal w c h e = is_true (legal c) (and_left (legal c) (eqb (word_of c) (plain w)) (by_bytes w c h e))
