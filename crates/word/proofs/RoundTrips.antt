-- Commands to words and words back.
--     command_back      every legal command comes back from its word
--     word_back         every listed word comes back from its command, but for its x bits
--     meaning_legal     what a word means is a legal command
--     listed_words      3,254 of the 4,096 words are listed
--     bar_word          the word of a bar level up to 127, 65 to 127 among them, means that level and no other
--     bars_end          level 128 is refused, and the word that would be its own is segment clear
-- Assumes nothing.
use mathlib.Core.Path.{◌≡◌, refl, ap, ap₂, sym, subst, ◌∙◌}
use mathlib.Core.Bool.{Bool, true, false}
use Prim.Native.Nat.{ℕ, ◌+◌, ◌≤◌}
use native.Mathlib.Omega.{arith}
use borrow.Author.Tests.{eq-eqb, ne_eqb}
use lib.Dec.{T, leb, eqb, eqb→eq, leb→le, le→leb}
use Rattle.base.specs.Bits.{cut, bit_value}
use Rattle.base.specs.Below.{below, count}
use Rattle.base.specs.Refusals.{Told, done, refused}
use Rattle.base.proofs.Picks.{pick_yes, pick_no}
use Rattle.base.proofs.Cuts.{bit_value_lt, bit_value_back}
use Rattle.base.proofs.Tests.{at_below, and_left, and_right, by_order}
use Rattle.word.specs.Words.{decoded_of, encoded_of, word_of, legal, plain, unlisted}
use Rattle.word.specs.declared.Command.{Command}
use Rattle.word.specs.declared.Command.TheVariants.{NoOperation, BarLevel, SegmentClear, SegmentSet, Reset, Sleep, ShiftLeft, ShiftRight, RotateLeft, RotateRight, CustomCharacter, SystemParameters, DisplayParameters, BlinkByte, ReadKey, LoadDigit}
use Rattle.word.specs.declared.System.{System}
use Rattle.word.specs.declared.Display.{Display}
use Rattle.word.proofs.Rows.{fits_row, above_unlisted}

-- ---- commands to words and back

-- a bit is read back from the number that it is
bit_back : (b : Bool) (n : ℕ) → n ≡ bit_value b → eqb n 1 ≡ b
bit_back b n e = ap (λ (x : ℕ). eqb x 1) e ∙ bit_value_back b

-- the words that end in fields, each field below its bound
module _ (s : System) where
  abbrev system_word : ℕ
  system_word = word_of (SystemParameters s)

  system_back : decoded_of system_word ≡ done (SystemParameters s)
  system_back =
      let i = bit_value_lt s.intm in
      let p = bit_value_lt s.sspd in
      let l = bit_value_lt s.dplr in
      let k = bit_value_lt s.keyb in
      let d = bit_value_lt s.disp in
      fits_row system_word 11 tt (omega arith)
      ∙ pick_no _ _ (ne_eqb (cut system_word 2 1) 1 (omega arith))
      ∙ (λ j.
      done (SystemParameters (record {
        intm = bit_back s.intm (cut system_word 5 1) (omega arith) j;
        sspd = bit_back s.sspd (cut system_word 4 1) (omega arith) j;
        dplr = bit_back s.dplr (cut system_word 3 1) (omega arith) j;
        keyb = bit_back s.keyb (cut system_word 1 1) (omega arith) j;
        disp = bit_back s.disp (cut system_word 0 1) (omega arith) j;
      })))

module _ (d : Display) (h : d.limit ≤ 7) where
  abbrev display_word : ℕ
  display_word = word_of (DisplayParameters d)

  display_back : decoded_of display_word ≡ done (DisplayParameters d)
  display_back =
      let m = bit_value_lt d.mode in
      fits_row display_word 12 tt (omega arith)
      ∙ pick_yes _ _ (eq-eqb (cut display_word 0 4) 0 (omega arith))
      ∙ (λ j.
      done (DisplayParameters (record {
        mode = bit_back d.mode (cut display_word 7 1) (omega arith) j;
        limit = limit_is (cut display_word 4 3) (omega arith) j;
      })))
    where
      limit_is : (n : ℕ) → n ≡ d.limit → n ≡ d.limit
      limit_is n e = e

digit_back : (dig byte : ℕ) → dig ≤ 7 → byte ≤ 255 → decoded_of (word_of (LoadDigit dig byte)) ≡ done (LoadDigit dig byte)
digit_back dig byte h l =
    let w = word_of (LoadDigit dig byte) in
    let e : cut w 8 3 ≡ dig = omega arith in
    let f : cut w 0 8 ≡ byte = omega arith in
    fits_row w 15 tt (omega arith) ∙ ap₂ (λ (x y : ℕ). done (LoadDigit x y)) e f

-- a word that ends in one field
field_back : (w n value : ℕ) (make : ℕ → Command) → decoded_of w ≡ done (make (cut w 0 n)) → cut w 0 n ≡ value → decoded_of w ≡ done (make value)
field_back w n value make e v = e ∙ ap (λ (x : ℕ). done (make x)) v

pub command_back : (c : Command) → T (legal c) → decoded_of (word_of c) ≡ done c
unfolding decoded_of
command_back NoOperation t = refl
command_back (BarLevel level) t =
    let h = leb→le level 127 t in
    let w = word_of (BarLevel level) in
    field_back w 7 level BarLevel (fits_row w 1 tt (omega arith)) (omega arith)
command_back (SegmentClear addr) t =
    let h = leb→le addr 63 t in
    let w = word_of (SegmentClear addr) in
    field_back w 6 addr SegmentClear (fits_row w 2 tt (omega arith)) (omega arith)
command_back (SegmentSet addr) t =
    let h = leb→le addr 63 t in
    let w = word_of (SegmentSet addr) in
    field_back w 6 addr SegmentSet (fits_row w 3 tt (omega arith)) (omega arith)
command_back Reset t = refl
command_back Sleep t = refl
command_back ShiftLeft t = refl
command_back ShiftRight t = refl
command_back RotateLeft t = refl
command_back RotateRight t = refl
command_back (CustomCharacter shape) t =
    let h = leb→le shape 127 t in
    let w = word_of (CustomCharacter shape) in
    field_back w 7 shape CustomCharacter (fits_row w 10 tt (omega arith)) (omega arith)
command_back (SystemParameters s) t = system_back s
command_back (DisplayParameters d) t = display_back d (leb→le d.limit 7 t)
command_back (BlinkByte byte) t =
    let h = leb→le byte 255 t in
    let w = word_of (BlinkByte byte) in
    field_back w 8 byte BlinkByte (fits_row w 13 tt (omega arith)) (omega arith)
command_back ReadKey t = refl
command_back (LoadDigit dig byte) t =
    digit_back dig byte (leb→le dig 7 (and_left (leb dig 7) (leb byte 255) t)) (leb→le byte 255 (and_right (leb dig 7) (leb byte 255) t))

-- ---- words to commands and back

-- a test of what a word means, passed by a refusal
abbrev means : (Command → Bool) → Told Command → Bool
means f (done c) = f c
means f (refused number place) = true

-- a test that every word below 4,096 passes says so of whatever command any word means
by_words : (f : ℕ → Command → Bool) → T (below (λ w. means (f w) (decoded_of w)) 4096) → (w : ℕ) (c : Command) → decoded_of w ≡ done c → T (f w c)
by_words f t w c e =
    by_order 4096 w (λ h. absurd (never (sym (above_unlisted w h) ∙ e)))
    (λ h. subst (λ (o : Told Command). T (means (f w) o)) e (at_below (λ n. means (f n) (decoded_of n)) 4096 t w h))
  where
    never : unlisted ≡ done c → ⊥
    never q = subst (λ (o : Told Command). T (means (λ d. false) o)) q tt

pub word_back : (w : ℕ) (c : Command) → decoded_of w ≡ done c → word_of c ≡ plain w
unfolding decoded_of plain
word_back w c e = eqb→eq (word_of c) (plain w) (by_words (λ n d. eqb (word_of d) (plain n)) tt w c e)

pub meaning_legal : (w : ℕ) (c : Command) → decoded_of w ≡ done c → T (legal c)
unfolding decoded_of
meaning_legal w c e = by_words (λ n d. legal d) tt w c e

-- ---- which words are listed

abbrev pub listed : Told Command → Bool
listed (done c) = true
listed (refused number place) = false

pub listed_words : count (λ w. listed (decoded_of w)) 4096 ≡ 3254
unfolding decoded_of
listed_words = refl

pub bar_word : (level : ℕ) → level ≤ 127 → decoded_of (0b000100000000 + level) ≡ done (BarLevel level)
bar_word level h = command_back (BarLevel level) (le→leb level 127 h)

pub bars_end : (encoded_of (BarLevel 128) ≡ refused 9 0) × (decoded_of (0b000100000000 + 128) ≡ done (SegmentClear 0))
unfolding encoded_of decoded_of
bars_end = (refl, refl)
