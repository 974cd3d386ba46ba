-- Laws of commands given as numbers.
--     fits_in, fits_out     a field that fits, and one that doesn't
--     of_field              a field that was cut to its low byte, where no more than a byte fits
--     legal_word            the word of a legal command
--     of_kind               a kind that is the one asked for
--     no_such_kind          refusal 9 for every kind above 15, whatever the fields
-- Assumes nothing.
use mathlib.Core.Path.{◌≡◌, ap, sym, ◌∙◌}
use mathlib.Core.Bool.{true}
use Prim.Native.Nat.{ℕ, ◌%◌, ◌≤◌, ◌<◌}
use lib.ListN.{get_or-eq_default}
use native.Mathlib.Nat.{mod-eq_of_lt}
use native.Mathlib.Omega.{arith}
use borrow.Author.Tests.{le-leb, lt-leb}
use Rattle.base.specs.Refusals.{Told, done, refused}
use Rattle.base.proofs.Picks.{pick_yes, pick_no}
use Rattle.base.proofs.Tests.{by_order}
use Rattle.word.specs.declared.Command.{Command}
use Rattle.word.specs.Words.{encoded_of, word_of, legal}
use Rattle.zhaqsumir.specs.Commands.{fits, kinds, command_from}

pub fits_in : {A : Type 0} {most n : ℕ} {t made : Told A} → n ≤ most → t ≡ made → t ≡ fits most n made
fits_in {most = most} {n = n} h e = e ∙ sym (pick_yes _ _ (le-leb n most h))

pub fits_out : {A : Type 0} {most n : ℕ} (made : Told A) → most < n → refused 9 0 ≡ fits most n made
fits_out {most = most} {n = n} made h = sym (pick_no _ _ (lt-leb n most h))

pub of_field : {t : Told Command} {byte most : ℕ} (command : ℕ → Command) (a : ℕ) → most ≤ 255 → byte ≡ a % 256 → t ≡ fits most a (done (command byte))
    → t ≡ fits most a (done (command a))
of_field {byte = byte} {most = most} command a small low is =
    by_order a most (λ h. is ∙ ap (λ (n : ℕ). fits most a (done (command n))) (low ∙ mod-eq_of_lt (omega arith)))
    (λ h. is ∙ sym (fits_out (done (command byte)) h) ∙ fits_out (done (command a)) h)

pub legal_word : (c : Command) → legal c ≡ true → encoded_of c ≡ done (word_of c)
unfolding encoded_of
legal_word c e = pick_yes _ _ e

pub of_kind : {t : Told Command} (k kind a b c d e : ℕ) → kind ≡ k → t ≡ command_from k a b c d e → t ≡ command_from kind a b c d e
of_kind k kind a b c d e q is = is ∙ ap (λ (n : ℕ). command_from n a b c d e) (sym q)

pub no_such_kind : (kind a b c d e : ℕ) → 15 < kind → refused 9 0 ≡ command_from kind a b c d e
unfolding command_from
no_such_kind kind a b c d e h = sym (ap (λ f. f a b c d e) (get_or-eq_default kinds (λ a b c d e. refused 9 0) h))
