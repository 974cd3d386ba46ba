-- What `zhaqsumir_decode` answers may be given to `zhaqsumir_encode`, which answers the same word.
--     numbers_back      a legal command comes back from its numbers
--     encode_decoded    the kind and fields of a listed word are encoded as that word, but for x bits
-- Assumes nothing.
use mathlib.Core.Path.{◌≡◌, refl, ap, sym, ◌∙◌}
use mathlib.Core.Bool.{Bool}
use mathlib.Core.List.{[], ◌∷◌}
use Prim.Native.Nat.{ℕ, ◌≤◌}
use native.Mathlib.Omega.{arith}
use lib.Dec.{T, leb, leb→le}
use Rattle.base.specs.Bits.{bit_value}
use Rattle.base.specs.Refusals.{Told, done}
use Rattle.base.proofs.Cuts.{bit_value_lt, bit_value_back}
use Rattle.base.proofs.Tests.{and_left, and_right, is_true}
use Rattle.word.specs.declared.Command.{Command}
use Rattle.word.specs.declared.Command.TheVariants.{NoOperation, BarLevel, SegmentClear, SegmentSet, Reset, Sleep, ShiftLeft, ShiftRight, RotateLeft, RotateRight, CustomCharacter, SystemParameters, DisplayParameters, BlinkByte, ReadKey, LoadDigit}
use Rattle.word.specs.Words.{decoded_of, legal, plain}
use Rattle.word.proofs.RoundTrips.{word_back, meaning_legal}
use Rattle.zhaqsumir.specs.Commands.{numbers_of, command_from, command_in}
use Rattle.zhaqsumir.specs.Numbers.{alone, encoded_by, encode_numbers}
use Rattle.zhaqsumir.proofs.Fields.{fits_in, legal_word}

bit_value_most : (b : Bool) → bit_value b ≤ 1
bit_value_most b = omega (arith, bit_value_lt b)

pub numbers_back : (c : Command) → T (legal c) → command_in (numbers_of c) ≡ done c
unfolding command_from
numbers_back NoOperation t = refl
numbers_back (BarLevel level) t = sym (fits_in (leb→le level _ t) refl)
numbers_back (SegmentClear addr) t = sym (fits_in (leb→le addr _ t) refl)
numbers_back (SegmentSet addr) t = sym (fits_in (leb→le addr _ t) refl)
numbers_back Reset t = refl
numbers_back Sleep t = refl
numbers_back ShiftLeft t = refl
numbers_back ShiftRight t = refl
numbers_back RotateLeft t = refl
numbers_back RotateRight t = refl
numbers_back (CustomCharacter shape) t = sym (fits_in (leb→le shape _ t) refl)
numbers_back (SystemParameters s) t =
    sym (fits_in (bit_value_most s.intm) (fits_in (bit_value_most s.sspd) (fits_in (bit_value_most s.dplr) (fits_in (bit_value_most s.keyb) (fits_in (bit_value_most s.disp) refl)))))
    ∙ (λ i. done (SystemParameters (record { intm = bit_value_back s.intm i; sspd = bit_value_back s.sspd i; dplr = bit_value_back s.dplr i; keyb = bit_value_back s.keyb i; disp = bit_value_back s.disp i })))
numbers_back (DisplayParameters d) t =
    sym (fits_in (bit_value_most d.mode) (fits_in (leb→le d.limit 7 t) refl))
    ∙ (λ i. done (DisplayParameters (record { mode = bit_value_back d.mode i; limit = d.limit })))
numbers_back (BlinkByte byte) t = sym (fits_in (leb→le byte _ t) refl)
numbers_back ReadKey t = refl
numbers_back (LoadDigit dig byte) t =
    sym (fits_in (leb→le dig 7 (and_left (leb dig 7) (leb byte 255) t)) (fits_in (leb→le byte 255 (and_right (leb dig 7) (leb byte 255) t)) refl))

pub encode_decoded : (w : ℕ) (c : Command) → decoded_of w ≡ done c → encode_numbers (numbers_of c) ≡ 0 ∷ 0 ∷ plain w ∷ []
encode_decoded w c e =
    let t = meaning_legal w c e in
    ap (λ (told : Told Command). alone (encoded_by told)) (numbers_back c t)
    ∙ ap alone (legal_word c (is_true (legal c) t))
    ∙ ap (λ (n : ℕ). 0 ∷ 0 ∷ n ∷ []) (word_back w c e)
