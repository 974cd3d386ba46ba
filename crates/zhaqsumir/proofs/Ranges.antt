-- A command that is given as numbers is refused with 9 exactly when there is no such kind, or a field that the kind has is above its
-- range.
--     Tells             an answer by one test
--     tells_field       one field more
--     encode_ranges     a command of six numbers
-- Assumes nothing.
use mathlib.Core.Path.{◌≡◌, refl, ap, sym, subst, ◌∙◌}
use mathlib.Core.Bool.{Bool, true, false, ◌&&◌}
use mathlib.Core.List.{List, [], ◌∷◌}
use Prim.Native.Nat.{ℕ, ◌≤◌}
use borrow.Author.Tests.{le-leb, lt-leb}
use lib.Dec.{eqb, leb}
use lib.ListN.{get_or}
use Rattle.base.specs.Below.{EachBelow}
use Rattle.base.specs.Refusals.{Told, done, refused}
use Rattle.base.proofs.Tests.{by_order, each_below}
use Rattle.word.specs.Ranges.{ranges, within, in_range}
use Rattle.word.specs.declared.Command.{Command}
use Rattle.word.specs.declared.Command.TheVariants.{NoOperation, BarLevel, SegmentClear, SegmentSet, Reset, Sleep, ShiftLeft, ShiftRight, RotateLeft, RotateRight, CustomCharacter, SystemParameters, DisplayParameters, BlinkByte, ReadKey, LoadDigit}
use Rattle.word.specs.Words.{encoded_of, word_of, legal}
use Rattle.zhaqsumir.specs.Commands.{fits, digit_from, command_from}
use Rattle.zhaqsumir.specs.Numbers.{encoded_by}
use Rattle.zhaqsumir.proofs.Fields.{fits_in, fits_out, legal_word, no_such_kind}

-- an answer by one test: a word where it passes, refusal 9 where it fails
pub data Tells : Told ℕ → Bool → Type 0 where
  a_word : (w : ℕ) → Tells (done w) true
  nine : Tells (refused 9 0) false

-- ---- one field more

-- a field in its range leaves it to the rest; one above it is refused
pub tells_field : {A : Type 0} (by : Told A → Told ℕ) → by (refused 9 0) ≡ refused 9 0 → (most n : ℕ) (made : Told A) (rest : Bool)
    → (n ≤ most → Tells (by made) rest)
    → Tells (by (fits most n made)) (leb n most && rest)
tells_field by nine_stays most n made rest low =
    by_order n most
    (λ l.
    subst (λ b. Tells (by (fits most n made)) (b && rest)) (sym (le-leb n most l)) (subst (λ t. Tells (by t) rest) (fits_in {most = most} {n = n} l refl) (low l)))
    (λ g.
    subst (λ b. Tells (by (fits most n made)) (b && rest)) (sym (lt-leb n most g))
    (subst (λ t. Tells (by t) false) (fits_out {most = most} {n = n} made g) (subst (λ t. Tells t false) (sym nine_stays) nine)))

-- ---- the kinds

tells_word : (c : Command) → legal c ≡ true → Tells (encoded_of c) true
tells_word c e = subst (λ (t : Told ℕ). Tells t true) (sym (legal_word c e)) (a_word (word_of c))

-- one field
one_field : (most n : ℕ) (c : Command) → legal c ≡ leb n most → Tells (encoded_by (fits most n (done c))) (leb n most && true)
one_field most n c e = tells_field encoded_by refl most n (done c) true (λ l. tells_word c (e ∙ le-leb n most l))

-- a bit, and the rest
one_bit : (n : ℕ) (made : Told Command) (rest : Bool) → Tells (encoded_by made) rest → Tells (encoded_by (fits 1 n made)) (leb n 1 && rest)
one_bit n made rest low = tells_field encoded_by refl 1 n made rest (λ l. low)

-- a digit and a byte
digit_byte : (a b : ℕ) → Tells (encoded_by (digit_from a b)) (leb a 7 && (leb b 255 && true))
digit_byte a b =
    tells_field encoded_by refl 7 a (fits 255 b (done (LoadDigit a b))) (leb b 255 && true)
    (λ l. tells_field encoded_by refl 255 b (done (LoadDigit a b)) true (λ m. tells_word (LoadDigit a b) (λ i. le-leb a 7 l i && le-leb b 255 m i)))

module _ (a b c d e : ℕ) where
  abbrev fields : List ℕ
  fields = a ∷ b ∷ c ∷ d ∷ e ∷ []

  abbrev Kind : ℕ → Type 0
  Kind k = Tells (encoded_by (command_from k a b c d e)) (in_range k fields)

  -- kinds 15 down to 0
  all_kinds : EachBelow Kind 16
  unfolding command_from
  all_kinds = (
    digit_byte a b,
    (
      tells_word ReadKey refl,
      (
        one_field 255 a (BlinkByte a) refl,
        (
          one_bit a _ _ (one_field 7 b (DisplayParameters (record { mode = eqb a 1; limit = b })) refl),
          (
            one_bit a _ _ (one_bit b _ _ (one_bit c _ _ (one_bit d _ _ (one_bit e _ _ (tells_word (SystemParameters (record { intm = eqb a 1; sspd = eqb b 1; dplr = eqb c 1; keyb = eqb d 1; disp = eqb e 1 })) refl))))),
            (
              one_field 127 a (CustomCharacter a) refl,
              (
                tells_word RotateRight refl,
                (
                  tells_word RotateLeft refl,
                  (
                    tells_word ShiftRight refl,
                    (
                      tells_word ShiftLeft refl,
                      (
                        tells_word Sleep refl,
                        (
                          tells_word Reset refl,
                          (
                            one_field 63 a (SegmentSet a) refl,
                            (
                              one_field 63 a (SegmentClear a) refl,
                              (
                                one_field 127 a (BarLevel a) refl,
                                (tells_word NoOperation refl, tt),
                              ),
                            ),
                          ),
                        ),
                      ),
                    ),
                  ),
                ),
              ),
            ),
          ),
        ),
      ),
    ),
  )

  pub encode_ranges : (kind : ℕ) → Kind kind
  encode_ranges kind =
      by_order 16 kind
      (λ h.
      subst (λ (t : Told ℕ). Tells t (in_range kind fields)) (ap encoded_by (no_such_kind kind a b c d e h))
      (subst (Tells (refused 9 0)) (sym (ap (λ (t : Bool). t && within (get_or ranges kind []) fields) (lt-leb kind 15 h))) nine))
      (λ h. each_below Kind 16 all_kinds kind h)
