-- What no scan changes of a chip: register, latch, the readout's bits left and the system bits. With KEYB off before the last chip, what
-- samples do to these goes by these alone.
--     by_part         what goes by these parts alone is the same for chips that have them in common
--     keypad_part     chips with the same parts are alike in where KEYB is on
--     same_step       chains with the same levels and parts stay so at a sample
--     same_scan       and where one of them is scanned
--     last_part       their last chips have the same parts
-- Assumes nothing.
use Rattle.std.proofs.Common.{◌≡◌, ℕ, zero, suc, ◌-◌, Bool, true, false, List, [], ◌∷◌, map, get_or, set, sym, refl, ap, ◌∙◌, ap₂}
use mathlib.Core.List.{head-eq_of_cons-eq, tail-eq_of_cons-eq, nil≢cons}
use Rattle.base.specs.Pick.{pick}
use Rattle.base.specs.Refusals.{Told, done, refused}
use Rattle.word.specs.declared.System.{System}
use Rattle.word.specs.declared.Command.{Command}
use Rattle.word.specs.declared.Command.TheVariants.{NoOperation, BarLevel, SegmentClear, SegmentSet, Reset, Sleep, ShiftLeft, ShiftRight, RotateLeft, RotateRight, CustomCharacter, SystemParameters, DisplayParameters, BlinkByte, ReadKey, LoadDigit}
use Rattle.word.specs.Words.{decoded_of}
use Rattle.chip.specs.declared.Chip.{Chip}
use Rattle.chip.specs.declared.LineParts.{LineParts}
use Rattle.chip.specs.Record.{reset_chip, with_line}
use Rattle.chip.specs.Commands.{applied, applied_word, obey, reset, system, read_key}
use Rattle.chip.specs.Edges.{din, dclk_falls, dclk_rises, load_rises, clocked, clocked_in, clocked_out, loaded, stepped}
use Rattle.chip.specs.Scans.{result, scanned}
use Rattle.chip.proofs.Quiet.{keyb_scanned, line_scanned}
use Rattle.chain.specs.declared.Chain.{Chain}
use Rattle.chain.specs.Chain.{stepped_row, stepped_chain, KeypadLast}
use Rattle.chain.specs.Entries.{chip_at, with_chip}
use Rattle.chain.proofs.Clocks.{latch_row, between}
use Rattle.chain.proofs.Places.{part_at}
use Rattle.reads.specs.Reads.{last_chip}

-- ---- the parts of a chip

-- what no scan changes, and what the looks and the chips after it take from a chip
pub record Part : Type 0 where
  pub register : ℕ
  pub latch : Bool
  pub left : ℕ
  pub system : System

abbrev pub part_of : Chip → Part
part_of c = record { register = c.line.register; latch = c.line.latch; left = c.line.readout.left; system = c.settings.system }

-- some chip with these parts
abbrev pub chip_of : Part → Chip
chip_of p =
    record {
      line = record { register = p.register; latch = p.latch; readout = record { code = 0; left = p.left } };
      settings = record { system = p.system; display = record { mode = false; limit = 0 }; blink = 0; custom = 0; sleeping = false };
      digits = [];
      keys = record { code = 0; interrupt = false; last = 0 };
    }

-- what goes by these parts alone is the same for chips that have them in common
pub by_part {ℓ} : {A : Type ℓ} (f : Chip → A) → ((x : Chip) → f x ≡ f (chip_of (part_of x))) → (c d : Chip) → part_of c ≡ part_of d → f c ≡ f d
by_part f same c d e = same c ∙ ap (λ p. f (chip_of p)) e ∙ sym (same d)

-- two choices by one test whose sides are alike are alike
alike {ℓ κ} : {A : Type ℓ} {B : Type κ} (f : A → B) (b : Bool) {x y u v : A} → f x ≡ f u → f y ≡ f v → f (pick b x y) ≡ f (pick b u v)
alike f true p q = p
alike f false p q = q

-- ---- one sample for one chip

-- what DCLK does
abbrev clocked_chip : ℕ → ℕ → Bool → Chip → Chip
clocked_chip was now b c = with_line (clocked was now b c.line) c

clocked_by : (was now : ℕ) (b : Bool) (c : Chip) → part_of (clocked_chip was now b c) ≡ part_of (clocked_chip was now b (chip_of (part_of c)))
unfolding clocked
clocked_by was now b c = by_tests (dclk_falls was now) (dclk_rises was now)
  where
    moved : Bool → Bool → Chip → Chip
    moved falls rises x = with_line (pick falls (clocked_out x.line) (pick rises (clocked_in b x.line) x.line)) x

    by_tests : (falls rises : Bool) → part_of (moved falls rises c) ≡ part_of (moved falls rises (chip_of (part_of c)))
    by_tests true rises = refl
    by_tests false true = refl
    by_tests false false = refl

-- what a command does; the code of the readout that it may start is none of these parts
applied_by : (command : Command) (c : Chip) → part_of (applied command c) ≡ part_of (applied command (chip_of (part_of c)))
unfolding applied obey reset system read_key
applied_by NoOperation c = refl
applied_by (BarLevel level) c = refl
applied_by (SegmentClear addr) c = refl
applied_by (SegmentSet addr) c = refl
applied_by Reset c = refl
applied_by Sleep c = refl
applied_by ShiftLeft c = refl
applied_by ShiftRight c = refl
applied_by RotateLeft c = refl
applied_by RotateRight c = refl
applied_by (CustomCharacter shape) c = refl
applied_by (SystemParameters s) c = alike part_of s.keyb refl refl
applied_by (DisplayParameters d) c = refl
applied_by (BlinkByte byte) c = refl
applied_by ReadKey c = alike part_of c.settings.system.keyb refl refl
applied_by (LoadDigit dig byte) c = refl

word_by_lem : (o : Told Command) (c : Chip) → part_of (applied_word o c) ≡ part_of (applied_word o (chip_of (part_of c)))
word_by_lem (done command) c = applied_by command c
word_by_lem (refused number place) c = refl

loaded_by : (c : Chip) → part_of (loaded c) ≡ part_of (loaded (chip_of (part_of c)))
unfolding loaded
loaded_by c = word_by_lem (decoded_of c.line.register) c

stepped_part : (was now : ℕ) (b : Bool) (c d : Chip) → part_of c ≡ part_of d → part_of (stepped was now b c) ≡ part_of (stepped was now b d)
unfolding stepped
stepped_part was now b c d e =
    let moved = by_part (λ x. part_of (clocked_chip was now b x)) (clocked_by was now b) c d e in
    alike part_of (load_rises was now)
    (by_part (λ x. part_of (loaded x)) loaded_by (clocked_chip was now b c) (clocked_chip was now b d) moved)
    moved

-- ---- chips of a chain

-- the parts of all chips
abbrev pub parts_of : List Chip → List Part
parts_of cs = map part_of cs

-- each chip but the first takes the latch before it
latches_part : (n was now : ℕ) (b : Bool) (cs ds : List Chip) → parts_of cs ≡ parts_of ds → parts_of (latch_row n was now b cs) ≡ parts_of (latch_row n was now b ds)
unfolding latch_row
latches_part zero was now b cs ds e = e
latches_part (suc n) was now b [] [] e = refl
latches_part (suc n) was now b [] (d ∷ ds) e = absurd (nil≢cons e)
latches_part (suc n) was now b (c ∷ cs) [] e = absurd (nil≢cons (sym e))
latches_part (suc n) was now b (c ∷ cs) (d ∷ ds) e =
    let same = head-eq_of_cons-eq e in
    ap₂ (λ x xs. x ∷ xs) (stepped_part was now b c d same)
    (latches_part n was now c.line.latch cs ds (tail-eq_of_cons-eq e)
    ∙ ap (λ (p : Part). parts_of (latch_row n was now p.latch ds)) same)

-- chips with the same parts are alike in where KEYB is on
pub keypad_part : (n : ℕ) (cs ds : List Chip) → parts_of cs ≡ parts_of ds → KeypadLast n cs → KeypadLast n ds
keypad_part zero cs ds e k = tt
keypad_part (suc zero) cs ds e k = tt
keypad_part (suc (suc n)) cs [] e k = tt
keypad_part (suc (suc n)) [] (d ∷ ds) e k = absurd (nil≢cons e)
keypad_part (suc (suc n)) (c ∷ cs) (d ∷ ds) e k =
    (ap (λ (p : Part). p.system.keyb) (sym (head-eq_of_cons-eq e)) ∙ k.0, keypad_part (suc n) cs ds (tail-eq_of_cons-eq e) k.1)

row_part : (n was now : ℕ) (b : Bool) (cs ds : List Chip) → KeypadLast n cs → parts_of cs ≡ parts_of ds
    → parts_of (stepped_row n was now b cs) ≡ parts_of (stepped_row n was now b ds)
row_part n was now b cs ds k e =
    ap parts_of (between n was now b cs k)
    ∙ latches_part n was now b cs ds e
    ∙ sym (ap parts_of (between n was now b ds (keypad_part n cs ds e k)))

-- a chip exchanged for one with the same parts
set_part_lem : (cs : List Chip) (k : ℕ) (x c : Chip) → part_of x ≡ part_of (get_or cs k c) → parts_of (set cs k x) ≡ parts_of cs
set_part_lem [] k x c e = refl
set_part_lem (d ∷ cs) zero x c e = ap (λ p. p ∷ parts_of cs) e
set_part_lem (d ∷ cs) (suc k) x c e = ap (λ ps. part_of d ∷ ps) (set_part_lem cs k x c e)

scanned_part : (bytes : List ℕ) (c : Chip) → part_of (scanned bytes c) ≡ part_of c
scanned_part bytes c =
    ap₂ (λ (l : LineParts) (s : System). record { register = l.register; latch = l.latch; left = l.readout.left; system = s })
    (line_scanned (result bytes) c)
    (keyb_scanned (result bytes) c)

-- ---- two chains

-- the same levels, and each chip with the same parts
pub record Same (one two : Chain) : Type 0 where
  pub levels : one.levels ≡ two.levels
  pub parts : parts_of one.chips ≡ parts_of two.chips

pub same_step : (n s : ℕ) (one two : Chain) → KeypadLast n one.chips → Same one two → Same (stepped_chain n s one) (stepped_chain n s two)
same_step n s one two k q =
    record {
      levels = refl;
      parts =
          row_part n one.levels s (din s) one.chips two.chips k q.parts
          ∙ ap (λ was. parts_of (stepped_row n was s (din s) two.chips)) q.levels;
    }

pub same_scan : (k : ℕ) (bytes : List ℕ) (one two : Chain) → Same one two → Same (with_chip k (scanned bytes (chip_at k one)) one) two
same_scan k bytes one two q =
    record {
      levels = q.levels;
      parts = set_part_lem one.chips k (scanned bytes (chip_at k one)) reset_chip (scanned_part bytes (chip_at k one)) ∙ q.parts;
    }

pub last_part : (n : ℕ) (one two : Chain) → Same one two → part_of (last_chip n one) ≡ part_of (last_chip n two)
last_part n one two q = part_at part_of one.chips two.chips (n - 1) reset_chip q.parts
