-- Lists changed place by place.
--     place_length              the list is as long as it was
--     place_none                changes that do nothing, from a place on
--     place_same, place_twice   changes that do the same, and one after another
--     place_further, place_at   places one further on, and what stands at a place
--     place_one                 a change that does something at one place alone is a store there
--     place_more, place_over    a loop that stores at each place: what is left, changed, makes the whole
--     every_place               what every element passes after a change
-- Assumes nothing.
use mathlib.Core.Path.{◌≡◌, refl, ap, ap₂, sym, ◌∙◌}
use mathlib.Core.Bool.{Bool, true, ◌&&◌, and-eq-true_iff}
use mathlib.Core.List.{List, [], ◌∷◌, ◌++◌, append_assoc}
use Prim.Native.Nat.{ℕ, zero, suc, ◌+◌, ◌≤◌, ◌<◌}
use native.Mathlib.Nat.{not-suc-le-zero, le_of_suc-le-suc, suc_inj}
use native.Mathlib.Numerals.{add-one}
use native.Mathlib.Omega.{arith}
use lib.ListN.{length, get_or, set, take, drop, take-append-drop}
use lib.Seq.{drop-cons, take-suc-set, drop-set-lt}
use Rattle.base.specs.Below.{every}
use Rattle.tallies.specs.Tallies.{each_place}

-- ---- changes

module _ {ℓ} {A : Type ℓ} where
  pub place_length : (f : ℕ → A → A) (k : ℕ) (xs : List A) → length (each_place f k xs) ≡ length xs
  unfolding each_place
  place_length f k [] = refl
  place_length f k (x ∷ xs) = ap suc (place_length f (suc k) xs)

  pub place_none : (f : ℕ → A → A) (k : ℕ) (xs : List A) → ((j : ℕ) (x : A) → k ≤ j → j < k + length xs → f j x ≡ x) → each_place f k xs ≡ xs
  unfolding each_place
  place_none f k [] e = refl
  place_none f k (x ∷ xs) e =
      ap₂ ◌∷◌ (e k x (omega arith) (omega arith)) (place_none f (suc k) xs (λ j y low high. e j y (omega arith) (omega arith)))

  pub place_same : (f g : ℕ → A → A) → ((k : ℕ) (x : A) → f k x ≡ g k x) → (k : ℕ) (xs : List A) → each_place f k xs ≡ each_place g k xs
  unfolding each_place
  place_same f g same k [] = refl
  place_same f g same k (x ∷ xs) = ap₂ ◌∷◌ (same k x) (place_same f g same (suc k) xs)

  pub place_twice : (f g : ℕ → A → A) (k : ℕ) (xs : List A) → each_place g k (each_place f k xs) ≡ each_place (λ j x. g j (f j x)) k xs
  unfolding each_place
  place_twice f g k [] = refl
  place_twice f g k (x ∷ xs) = ap (λ ys. g k (f k x) ∷ ys) (place_twice f g (suc k) xs)

  pub place_further : (f : ℕ → A → A) (k : ℕ) (xs : List A) → each_place f (suc k) xs ≡ each_place (λ j. f (suc j)) k xs
  unfolding each_place
  place_further f k [] = refl
  place_further f k (x ∷ xs) = ap (λ ys. f (suc k) x ∷ ys) (place_further f (suc k) xs)

  pub place_at : (f : ℕ → A → A) (xs : List A) (k : ℕ) (d : A) → k < length xs → get_or (each_place f 0 xs) k d ≡ f k (get_or xs k d)
  unfolding each_place
  place_at f [] k d h = absurd (not-suc-le-zero h)
  place_at f (x ∷ xs) zero d h = refl
  place_at f (x ∷ xs) (suc k) d h =
      ap (λ ys. get_or ys k d) (place_further f 0 xs) ∙ place_at (λ j. f (suc j)) xs k d (le_of_suc-le-suc h)

  pub place_one : (f : ℕ → A → A) (xs : List A) (k : ℕ) (d : A) → k < length xs → ((j : ℕ) (x : A) → (j ≡ k → ⊥) → f j x ≡ x)
      → each_place f 0 xs ≡ set xs k (f k (get_or xs k d))
  unfolding each_place
  place_one f [] k d h e = absurd (not-suc-le-zero h)
  place_one f (x ∷ xs) zero d h e = ap (λ ys. f 0 x ∷ ys) (place_none f 1 xs (λ j y low high. e j y (λ q. omega arith)))
  place_one f (x ∷ xs) (suc k) d h e =
      ap₂ ◌∷◌ (e 0 x (λ q. omega arith))
      (place_further f 0 xs ∙ place_one (λ j. f (suc j)) xs k d (le_of_suc-le-suc h) (λ j y n. e (suc j) y (λ q. n (suc_inj q))))

  pub place_more : (f : ℕ → A → A) (k : ℕ) (xs : List A) (d y : A) → k < length xs → y ≡ f k (get_or xs k d)
      → take (k + 1) (set xs k y) ++ each_place f (k + 1) (drop (k + 1) (set xs k y)) ≡ take k xs ++ each_place f k (drop k xs)
  unfolding each_place
  place_more f k xs d y h e =
      rw (add-one, take-suc-set xs k y h, drop-set-lt (suc k) xs k y above)
      (append_assoc (take k xs) (y ∷ []) (each_place f (suc k) (drop (suc k) xs))
      ∙ ap (λ z. take k xs ++ z ∷ each_place f (suc k) (drop (suc k) xs)) e
      ∙ ap (λ r. take k xs ++ each_place f k r) (sym (drop-cons xs k d h)))
    where
      above : k < suc k
      above = omega arith

  pub place_over : (f : ℕ → A → A) (k : ℕ) (xs : List A) → ((j : ℕ) (x : A) → k ≤ j → f j x ≡ x) → take k xs ++ each_place f k (drop k xs) ≡ xs
  place_over f k xs e = ap (λ r. take k xs ++ r) (place_none f k (drop k xs) (λ j x low high. e j x low)) ∙ take-append-drop k xs

  -- ---- tests

  pub every_place : (p q : A → Bool) (f : ℕ → A → A) (k : ℕ) (xs : List A) → ((j : ℕ) (x : A) → p x ≡ true → q (f j x) ≡ true)
      → every p xs ≡ true → every q (each_place f k xs) ≡ true
  unfolding every each_place
  every_place p q f k [] s e = refl
  every_place p q f k (x ∷ xs) s e =
      ap₂ ◌&&◌ (s k x ((and-eq-true_iff (p x) (every p xs)).0 e).0) (every_place p q f (suc k) xs s ((and-eq-true_iff (p x) (every p xs)).0 e).1)
