-- A panel's settings as 73 numbers, and what the functions for them do.
--     numbers_writable            the settings that numbers stand for pass the settings' own test where the numbers pass theirs
--     chips_long                  nine numbers a chip
--     told_numbers                the answer of a read, its first three numbers stored and then the chips'
--     puts_refused, puts_done     what the functions that are lent a buffer do
-- Assumes nothing.
use mathlib.Core.Path.{◌≡◌, refl, ap, ap₂, sym, subst, ◌∙◌}
use mathlib.Core.Bool.{Bool, true, ◌&&◌}
use mathlib.Core.List.{List, ◌∷◌, ◌++◌, append-nil}
use Prim.Native.Nat.{ℕ, zero, suc, ◌*◌, ◌≤◌, ◌<◌}
use native.Mathlib.Omega.{arith}
use lib.Dec.{T}
use lib.ListN.{length, set, take, replicate, drop_of_length-le}
use Rattle.base.specs.Below.{below, every}
use Rattle.base.specs.Lent.{placed}
use Rattle.base.specs.Refusals.{IsDone, done, refused_by, tells}
use Rattle.base.specs.declared.Refusal.{Refusal}
use Rattle.base.proofs.Tests.{is_true, at_below}
use Rattle.chain.specs.Chain.{chip_count}
use Rattle.lines.proofs.Each.{lines_width}
use Rattle.settings.specs.declared.Kept.{Kept}
use Rattle.settings.specs.declared.Kiosk.{Kiosk}
use Rattle.settings.specs.Putting.{settings_test, answer_by, buffer_by, Fits}
use Rattle.settings.specs.Settings.{legal_kept}
use Rattle.settings.proofs.Texts.{passes_test}
use Rattle.zhaqsumir.specs.Numbers.{alone}
use Rattle.zhaqsumir.specs.Panels.{count_in}
use Rattle.zhaqsumir.specs.Settings.{kept_numbers, kept_fits_in, settings_tested, kept_in, kiosk_of, chips_numbers, PutsNumbers}
use Rattle.zhaqsumir.proofs.ChainPanels.{both_passed}
use Rattle.zhaqsumir.proofs.Counts.{at_places}
use Rattle.zhaqsumir.proofs.KeptNumbers.{chip_legal}
use Rattle.std.specs.declared.result.Result.{Result}

-- ---- the tests

-- the first n of the values at so many places
every_places : {A : Type 0} (test : A → Bool) (f : ℕ → A) (many n : ℕ) → ((k : ℕ) → k < n → test (f k) ≡ true) → every test (take n (at_places f many)) ≡ true
unfolding every
every_places test f zero zero each = refl
every_places test f zero (suc n) each = refl
every_places test f (suc many) zero each = refl
every_places test f (suc many) (suc n) each =
    ap₂ ◌&&◌ (each 0 (omega arith)) (every_places test (λ k. f (suc k)) many n (λ k h. each (suc k) (omega arith)))

module _ (ns : List ℕ) (passed : settings_tested ns ≡ done tt) where
  numbers_tests : T (chip_count (count_in ns)) × T (below (kept_fits_in ns) (count_in ns))
  unfolding settings_tested
  numbers_tests = both_passed (chip_count (count_in ns)) (below (kept_fits_in ns) (count_in ns)) 9 (subst IsDone (sym passed) tt)

  chip_fits_lem : (k : ℕ) → k < count_in ns → kept_fits_in ns k ≡ true
  chip_fits_lem k h = is_true (kept_fits_in ns k) (at_below (kept_fits_in ns) (count_in ns) numbers_tests.1 k h)

  pub numbers_writable : settings_test (kiosk_of ns) ≡ done tt
  unfolding kiosk_of
  numbers_writable =
      passes_test (kiosk_of ns)
      record {
        chips = is_true (chip_count (count_in ns)) numbers_tests.0;
        legal = every_places legal_kept (kept_in ns) 8 (count_in ns) (λ k h. chip_legal _ (chip_fits_lem k h));
      }

-- ---- the numbers of settings

pub chips_long : (cs : List Kept) → length (chips_numbers cs) ≡ 9 * length cs
chips_long cs = lines_width (λ k c. kept_numbers c) 9 (λ k c. refl) 0 cs

pub told_numbers : (number place n : ℕ) (cs : List Kept) → length cs ≡ 8
    → placed 3 (chips_numbers cs) (set (set (set (replicate 75 0) 0 number) 1 place) 2 n) ≡ number ∷ place ∷ n ∷ chips_numbers cs
told_numbers number place n cs eight =
    let zeros : List ℕ = replicate 72 0 in
    let long : length zeros ≤ length (chips_numbers cs) = omega (arith, chips_long cs) in
    ap (λ rest. number ∷ place ∷ n ∷ (chips_numbers cs ++ rest)) (drop_of_length-le zeros long)
    ∙ ap (λ xs. number ∷ place ∷ n ∷ xs) (append-nil (chips_numbers cs))

-- ---- a buffer that is lent

-- the piece of the settings that numbers stand for
module _ (piece_of : Kiosk → List ℕ) (ns out : List ℕ) where
  abbrev piece : List ℕ
  piece = piece_of (kiosk_of ns)

  pub puts_refused : (e : Refusal) (r : Result ℕ Refusal) → tells r ≡ refused_by e → settings_tested ns ≡ refused_by e
      → PutsNumbers ns piece out (alone (tells r)) out
  puts_refused e r says told =
      record { numbers = ap alone (says ∙ sym (ap (λ t. answer_by t piece out) told)); buffer = sym (ap (λ t. buffer_by (answer_by t piece out) piece out) told) }

  pub puts_done : {kiosk : Kiosk} {r : Result ℕ Refusal} {out' : List ℕ} → settings_tested ns ≡ done tt → kiosk ≡ kiosk_of ns
      → Fits kiosk (piece_of kiosk) out r out'
      → PutsNumbers ns piece out (alone (tells r)) out'
  puts_done {r = r} {out' = out'} told from put =
      let same : settings_test (kiosk_of ns) ≡ settings_tested ns = numbers_writable ns told ∙ sym told in
      let fits = subst (λ (k : Kiosk). Fits k (piece_of k) out r out') from put in
      record {
        numbers = ap alone (fits.answer ∙ ap (λ t. answer_by t piece out) same);
        buffer = fits.buffer ∙ ap (λ t. buffer_by (answer_by t piece out) piece out) same;
      }
