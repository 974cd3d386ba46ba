-- Tests of every element of a list.
--     every_at                                           what every element passes, the one at a place does
--     every_alike                                        tests that say the same
--     every_step, every_stop, every_rest, every_over     a loop over the elements
-- Assumes nothing.
use mathlib.Core.Path.{◌≡◌, refl, ap, ap₂, sym, ◌∙◌}
use mathlib.Core.Bool.{Bool, true, false, ◌&&◌, and-eq-true_iff}
use mathlib.Core.List.{List, [], ◌∷◌}
use Prim.Native.Nat.{ℕ, zero, suc, ◌+◌, ◌≤◌, ◌<◌}
use native.Mathlib.Nat.{not-suc-le-zero, le_of_suc-le-suc}
use native.Mathlib.Numerals.{add-one}
use lib.ListN.{length, get_or, drop, drop_of_length-le}
use lib.Seq.{drop-cons}
use Rattle.base.specs.Below.{every}

module _ {ℓ} {A : Type ℓ} where
  pub every_at : (test : A → Bool) (xs : List A) (i : ℕ) (d : A) → every test xs ≡ true → i < length xs → test (get_or xs i d) ≡ true
  unfolding every
  every_at test [] i d e h = absurd (not-suc-le-zero h)
  every_at test (x ∷ xs) zero d e h = ((and-eq-true_iff (test x) (every test xs)).0 e).0
  every_at test (x ∷ xs) (suc i) d e h = every_at test xs i d ((and-eq-true_iff (test x) (every test xs)).0 e).1 (le_of_suc-le-suc h)

  pub every_alike : (p q : A → Bool) (xs : List A) → ((x : A) → p x ≡ q x) → every p xs ≡ every q xs
  unfolding every
  every_alike p q [] s = refl
  every_alike p q (x ∷ xs) s = ap₂ ◌&&◌ (s x) (every_alike p q xs s)

  every_more : (test : A → Bool) (xs : List A) (i : ℕ) (d : A) → i < length xs
      → every test (drop i xs) ≡ (test (get_or xs i d) && every test (drop (i + 1) xs))
  unfolding every
  every_more test xs i d h = rw add-one (ap (every test) (drop-cons xs i d h))

  pub every_step : (test : A → Bool) (xs : List A) (i : ℕ) (d : A) → i < length xs → test (get_or xs i d) ≡ true
      → every test (drop (i + 1) xs) ≡ every test (drop i xs)
  every_step test xs i d h e = sym (every_more test xs i d h ∙ ap (λ b. b && every test (drop (i + 1) xs)) e)

  pub every_stop : (test : A → Bool) (xs : List A) (i : ℕ) (d : A) → i < length xs → test (get_or xs i d) ≡ false → every test (drop i xs) ≡ false
  every_stop test xs i d h e = every_more test xs i d h ∙ ap (λ b. b && every test (drop (i + 1) xs)) e

  pub every_rest : (test : A → Bool) (xs : List A) (i : ℕ) (d : A) → i < length xs → every test (drop i xs) ≡ true
      → (test (get_or xs i d) ≡ true) × (every test (drop (i + 1) xs) ≡ true)
  every_rest test xs i d h e =
      (and-eq-true_iff (test (get_or xs i d)) (every test (drop (i + 1) xs))).0 (sym (every_more test xs i d h) ∙ e)

  pub every_over : (test : A → Bool) (xs : List A) (i : ℕ) → length xs ≤ i → every test (drop i xs) ≡ true
  unfolding every
  every_over test xs i h = ap (every test) (drop_of_length-le xs h)
