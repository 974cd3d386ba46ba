-- CH450 commands given as numbers.
--     command_back     a legal command, its data byte a byte, comes back from its numbers
--     encode_word      and its numbers are encoded as its word
--     encode_ranges    five numbers are refused with 9 exactly when there is no such kind, or a field that the kind has is out of range
-- Assumes nothing.
use mathlib.Core.Path.{◌≡◌, refl, ap, ap₂, sym, subst, ◌∙◌}
use mathlib.Core.Bool.{Bool, true, false, ◌&&◌}
use mathlib.Core.List.{List, [], ◌∷◌}
use Prim.Native.Nat.{ℕ, ◌≤◌}
use native.Mathlib.Nat.{le_of_suc-le-suc}
use borrow.Author.Tests.{leb-true, le-leb, lt-leb}
use lib.Dec.{eqb, leb}
use Rattle.base.specs.Bits.{bit_value}
use Rattle.base.specs.Pick.{pick}
use Rattle.base.specs.Refusals.{Told, done, refused}
use Rattle.base.proofs.Cuts.{bit_value_lt, bit_value_back}
use Rattle.base.proofs.Picks.{pick_yes}
use Rattle.base.proofs.Tests.{by_order}
use Rattle.ch450.specs.declared.Command.{Command}
use Rattle.ch450.specs.declared.Command.TheVariants.{Parameters, LoadDigit, ReadKey}
use Rattle.ch450.specs.Commands.{legal, word_of, encoded_of}
use Rattle.ch450.proofs.Digits.{digit_range}
use Rattle.ch450.proofs.RoundTrips.{Held}
use Rattle.zhaqsumir.specs.Commands.{fits}
use Rattle.zhaqsumir.specs.Numbers.{alone}
use Rattle.zhaqsumir.specs.TwoWires.{parameters_from, digit_from, command_from, command_in, word_by, ch450_word}
use Rattle.zhaqsumir.proofs.Fields.{fits_in}
use Rattle.zhaqsumir.proofs.Ranges.{Tells, a_word, nine, tells_field}

-- ---- commands to numbers and back

-- the numbers of a command; a field that its kind lacks is 0
abbrev pub command_numbers : Command → List ℕ
command_numbers (Parameters s) = 0 ∷ bit_value s.sleep ∷ s.intens ∷ bit_value s.keyb ∷ bit_value s.disp ∷ []
command_numbers (LoadDigit dig byte) = 1 ∷ dig ∷ byte ∷ 0 ∷ 0 ∷ []
command_numbers ReadKey = 2 ∷ 0 ∷ 0 ∷ 0 ∷ 0 ∷ []

bit_value_most : (b : Bool) → bit_value b ≤ 1
bit_value_most b = le_of_suc-le-suc (bit_value_lt b)

pub command_back : (c : Command) → legal c ≡ true → Held c → command_in (command_numbers c) ≡ done c
unfolding command_from
command_back (Parameters s) e t =
    sym (fits_in (bit_value_most s.sleep) (fits_in (leb-true s.intens 3 e) (fits_in (bit_value_most s.keyb) (fits_in (bit_value_most s.disp) refl))))
    ∙ (λ i. done (Parameters (record { sleep = bit_value_back s.sleep i; intens = s.intens; keyb = bit_value_back s.keyb i; disp = bit_value_back s.disp i })))
command_back (LoadDigit dig byte) e t = sym (fits_in (digit_range dig e).1 (fits_in (le_of_suc-le-suc t) refl))
command_back ReadKey e t = refl

legal_word : (c : Command) → legal c ≡ true → encoded_of c ≡ done (word_of c)
unfolding encoded_of
legal_word c e = pick_yes _ _ e

pub encode_word : (c : Command) → legal c ≡ true → Held c → ch450_word (command_numbers c) ≡ 0 ∷ 0 ∷ word_of c ∷ []
encode_word c e t = ap (λ (told : Told Command). alone (word_by told)) (command_back c e t) ∙ ap alone (legal_word c e)

-- ---- which numbers are refused

-- the kinds, and the ranges of their fields
abbrev pub in_range : ℕ → ℕ → ℕ → ℕ → ℕ → Bool
in_range kind a b c d =
    pick (eqb kind 0) (leb a 1 && (leb b 3 && (leb c 1 && (leb d 1 && true)))) (pick (eqb kind 1) (leb a 7 && (leb b 255 && leb 2 a)) (pick (eqb kind 2) true false))

tells_word : (c : Command) → legal c ≡ true → Tells (encoded_of c) true
tells_word c e = subst (λ (t : Told ℕ). Tells t true) (sym (legal_word c e)) (a_word (word_of c))

-- one field, and the rest
field : (most n : ℕ) (made : Told Command) (rest : Bool) → (n ≤ most → Tells (word_by made) rest) → Tells (word_by (fits most n made)) (leb n most && rest)
field = tells_field word_by refl

-- SLEEP, INTENS, KEYB, DISP
parameters : (a b c d : ℕ) → Tells (word_by (parameters_from a b c d)) (leb a 1 && (leb b 3 && (leb c 1 && (leb d 1 && true))))
parameters a b c d =
    let s = Parameters (record { sleep = eqb a 1; intens = b; keyb = eqb c 1; disp = eqb d 1 }) in
    field 1 a _ _ (λ k. field 3 b _ _ (λ l. field 1 c _ _ (λ m. field 1 d (done s) true (λ n. tells_word s (le-leb b 3 l)))))

-- DIG2 to DIG7, and a byte
digit : (a b : ℕ) → Tells (word_by (digit_from a b)) (leb a 7 && (leb b 255 && leb 2 a))
unfolding encoded_of
digit a b =
    field 7 a _ _
    (λ l.
    field 255 b (done (LoadDigit a b)) (leb 2 a)
    (λ m.
    by_order 2 a (λ h. subst (λ (t : Bool). Tells (encoded_of (LoadDigit a b)) t) (sym (le-leb 2 a h)) (tells_word (LoadDigit a b) (ap₂ ◌&&◌ (le-leb 2 a h) (le-leb a 7 l))))
    (λ h.
    let no = lt-leb 2 a h in
    subst (λ (t : Bool). Tells (pick (t && leb a 7) (done (word_of (LoadDigit a b))) (refused 9 0)) t) (sym no) nine)))

-- by a test of the kind
by_kind : (t : Bool) (x y : Told Command) {p q : Bool} → Tells (word_by x) p → Tells (word_by y) q → Tells (word_by (pick t x y)) (pick t p q)
by_kind true x y f g = f
by_kind false x y f g = g

pub encode_ranges : (kind a b c d : ℕ) → Tells (word_by (command_from kind a b c d)) (in_range kind a b c d)
unfolding command_from
encode_ranges kind a b c d =
    let read = pick (eqb kind 2) (done ReadKey) (refused 9 0) in
    by_kind (eqb kind 0) (parameters_from a b c d) (pick (eqb kind 1) (digit_from a b) read) (parameters a b c d)
    (by_kind (eqb kind 1) (digit_from a b) read (digit a b) (by_kind (eqb kind 2) (done ReadKey) (refused 9 0) (tells_word ReadKey refl) nine))
