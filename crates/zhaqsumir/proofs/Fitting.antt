-- Numbers each no more than the most that its place can hold.
--     under            such a number is below a bound that is above its most
--     below_same       tests that agree at each number below n
--     below_each       a test that passes at each number below n
--     all_below        a test of all numbers below n, from 0 up
--     all_within       each number tested against the most at its place
--     number_bit       a number that is 0 or 1 comes back from the bit that it is
--     bit_most         the number of a bit is no more than 1
--     digit_most       a digit is no more than 255, where each is below 256
-- Assumes nothing.
use mathlib.Core.Path.{◌≡◌, refl, ap, ap₂, sym, subst, ◌∙◌}
use mathlib.Core.Bool.{Bool, true, false, ◌&&◌}
use mathlib.Core.List.{List, [], ◌∷◌}
use Prim.Native.Nat.{ℕ, zero, suc, ◌+◌, ◌<◌, zero-le}
use native.Mathlib.Nat.{lt_of_le_of_lt, lt_of_lt_of_le, le_of_lt, le_refl, le_of_suc-le-suc}
use native.Mathlib.Omega.{arith}
use borrow.Author.Tests.{le-leb}
use lib.Dec.{T, eqb, leb, ltb, leb→le, lit<}
use lib.ListN.{length, get_or}
use Rattle.std.proofs.Common.{add-zero, zero-add}
use Rattle.std.specs.List.{list_all, range_with_len, zip}
use Rattle.base.specs.Below.{below, AllBelow}
use Rattle.base.specs.Bits.{bit_value}
use Rattle.base.proofs.Lists.{below_at}
use Rattle.base.proofs.Tests.{at_below, eq_below}

-- a test of all numbers below n, from 0 up
swapped : (a b c : Bool) → (a && (b && c)) ≡ (b && (a && c))
swapped true b c = refl
swapped false true c = refl
swapped false false c = refl

below_first : (f : ℕ → Bool) (n : ℕ) → below f (suc n) ≡ (f 0 && below (λ k. f (suc k)) n)
below_first f zero = refl
below_first f (suc n) =
    ap (λ t. f (suc n) && t) (below_first f n) ∙ swapped (f (suc n)) (f 0) (below (λ k. f (suc k)) n)

-- tests that agree at each number below n
pub below_same : (f g : ℕ → Bool) (n : ℕ) → ((k : ℕ) → k < n → f k ≡ g k) → below f n ≡ below g n
below_same f g zero each = refl
below_same f g (suc n) each = ap₂ ◌&&◌ (each n (le_refl (suc n))) (below_same f g n (λ k h. each k (lt_of_lt_of_le h (le_of_lt (le_refl (suc n))))))

-- a test that passes at each number below n
pub below_each : (f : ℕ → Bool) (n : ℕ) → ((k : ℕ) → k < n → f k ≡ true) → below f n ≡ true
below_each f zero each = refl
below_each f (suc n) each = ap₂ ◌&&◌ (each n (le_refl (suc n))) (below_each f n (λ k h. each k (lt_of_lt_of_le h (le_of_lt (le_refl (suc n))))))

all_from : (f : ℕ → Bool) (i n : ℕ) → list_all f (range_with_len i n) ≡ below (λ k. f (i + k)) n
all_from f i zero = refl
all_from f i (suc n) =
    ap₂ ◌&&◌ (ap f (sym (add-zero i))) (all_from f (i + 1) n ∙ below_same (λ k. f (i + 1 + k)) (λ k. f (i + suc k)) n (λ k h. ap f (omega arith)))
    ∙ sym (below_first (λ k. f (i + k)) n)

pub all_below : (f : ℕ → Bool) (n : ℕ) → list_all f (range_with_len 0 n) ≡ below f n
all_below f n = all_from f 0 n ∙ below_same (λ k. f (0 + k)) f n (λ k h. ap f (zero-add k))

-- the number at a place is no more than the most there
abbrev pub fits_by : List ℕ → List ℕ → ℕ → Bool
fits_by mosts ns k = leb (get_or ns k 0) (get_or mosts k 0)

module _ (mosts ns : List ℕ) where
  pub under : (n : ℕ) → below (fits_by mosts ns) n ≡ true → (k : ℕ) {bound : ℕ} → T (ltb k n) → T (ltb (get_or mosts k 0) bound) → get_or ns k 0 < bound
  under n h k within less =
      lt_of_le_of_lt (leb→le (get_or ns k 0) (get_or mosts k 0) (at_below (fits_by mosts ns) n (subst T (sym h) tt) k (lit< within))) (lit< less)

-- a number is no more than the most beside it
abbrev pub within : ℕ × ℕ → Bool
within p = leb p.0 p.1

pub all_within : (ns mosts : List ℕ) → list_all within (zip ns mosts) ≡ below (fits_by mosts ns) (length mosts)
all_within [] mosts = sym (below_each (fits_by mosts []) (length mosts) (λ k h. le-leb 0 (get_or mosts k 0) zero-le))
all_within (n ∷ ns) [] = refl
all_within (n ∷ ns) (m ∷ mosts) = ap (λ t. leb n m && t) (all_within ns mosts) ∙ sym (below_first (fits_by (m ∷ mosts) (n ∷ ns)) (length mosts))

-- ---- bits and bytes

pub number_bit : (n : ℕ) → n < 2 → bit_value (eqb n 1) ≡ n
number_bit = eq_below (λ n. bit_value (eqb n 1)) (λ n. n) 2 tt

pub bit_most : (b : Bool) → leb (bit_value b) 1 ≡ true
bit_most true = refl
bit_most false = refl

pub digit_most : (ds : List ℕ) (k : ℕ) → AllBelow 256 ds → leb (get_or ds k 0) 255 ≡ true
digit_most ds k all = le-leb (get_or ds k 0) 255 (le_of_suc-le-suc (below_at 256 ds k (omega arith) all))
