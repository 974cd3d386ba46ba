-- Laws on lists that several crates cite.
-- Assumes nothing.
use mathlib.Core.Path.{◌≡◌, refl, ap, sym, ◌∙◌}
use mathlib.Core.List.{List, [], ◌∷◌, ◌++◌, map}
use Prim.Native.Nat.{ℕ, zero, suc, ◌+◌, ◌≤◌, ◌<◌}
use native.Mathlib.Nat.{not-suc-le-zero, le_of_suc-le-suc}
use native.Mathlib.Numerals.{add-one}
use native.Mathlib.Omega.{arith}
use lib.ListN.{length, get_or, drop, length-map}
use lib.Seq.{drop-cons}
use Rattle.base.specs.Below.{AllBelow}

-- a list is as long as its image: what is known of an array of structs is known of their values
pub length_mapped {ℓ κ} : {A : Type ℓ} {B : Type κ} (f : A → B) (xs : List A) (n : ℕ) → length (map f xs) ≡ n → length xs ≡ n
length_mapped f xs n e = sym (length-map xs f) ∙ e

-- within a list the default doesn't matter
pub get_d_any {ℓ} : {A : Type ℓ} (xs : List A) (k : ℕ) (d e : A) → k < length xs → get_or xs k d ≡ get_or xs k e
get_d_any [] k d e h = absurd (not-suc-le-zero h)
get_d_any (x ∷ xs) zero d e h = refl
get_d_any (x ∷ xs) (suc k) d e h = get_d_any xs k d e (le_of_suc-le-suc h)

-- the rest begins with the element at its place
pub rest_is {ℓ} : {A : Type ℓ} (xs : List A) (i : ℕ) (d : A) → i < length xs → drop i xs ≡ get_or xs i d ∷ drop (i + 1) xs
rest_is xs i d h = drop-cons xs i d h ∙ ap (λ n. get_or xs i d ∷ drop n xs) (sym (add-one i))

-- two lists of numbers below a bound, one after the other
pub below_append : (m : ℕ) (xs ys : List ℕ) → AllBelow m xs → AllBelow m ys → AllBelow m (xs ++ ys)
below_append m [] ys a b = b
below_append m (x ∷ xs) ys a b = (a.0, below_append m xs ys a.1 b)

-- and each of them
pub below_front : (m : ℕ) (xs ys : List ℕ) → AllBelow m (xs ++ ys) → AllBelow m xs
below_front m [] ys a = tt
below_front m (x ∷ xs) ys a = (a.0, below_front m xs ys a.1)

pub below_back : (m : ℕ) (xs ys : List ℕ) → AllBelow m (xs ++ ys) → AllBelow m ys
below_back m [] ys a = a
below_back m (x ∷ xs) ys a = below_back m xs ys a.1

-- such a list is below a higher bound
pub below_more : (a b : ℕ) (xs : List ℕ) → a ≤ b → AllBelow a xs → AllBelow b xs
below_more a b [] h y = tt
below_more a b (x ∷ xs) h y = let l : x < a = y.0 in (omega arith, below_more a b xs h y.1)

-- a number of such a list, or 0 past its end
pub below_at : (m : ℕ) (xs : List ℕ) (k : ℕ) → 0 < m → AllBelow m xs → get_or xs k 0 < m
below_at m [] k h all = h
below_at m (x ∷ xs) zero h all = all.0
below_at m (x ∷ xs) (suc k) h all = below_at m xs k h all.1
