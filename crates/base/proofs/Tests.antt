-- What a computed test over all numbers below a bound says of each of them.
-- Assumes nothing.
use mathlib.Core.Path.{◌≡◌, refl, subst, sym, ◌∙◌}
use mathlib.Core.Bool.{Bool, true, false, ◌&&◌}
use mathlib.Core.Logic.{⊎_elim}
use Prim.Native.Nat.{ℕ, zero, suc, ◌≤◌, ◌<◌}
use native.Mathlib.Nat.{not-suc-le-zero, eq-or-lt_of_le, le_of_suc-le-suc}
use lib.Arith.{lt_of_le-ne}
use lib.Dec.{T, leb, eqb, eqb→eq}
use borrow.Author.Tests.{leb-true, leb-false, eqb-true, eqb-false, eq-eqb, ne_eqb}
use Rattle.base.specs.Below.{below, EachBelow}

-- a test that holds is true
pub is_true : (b : Bool) → T b → b ≡ true
is_true true t = refl
is_true false t = absurd t

pub and_left : (a b : Bool) → T (a && b) → T a
and_left true b t = tt
and_left false b t = t

pub and_right : (a b : Bool) → T (a && b) → T b
and_right true b t = t
and_right false b t = absurd t

pub and_both : (a b : Bool) → T a → T b → T (a && b)
and_both true b s t = t
and_both false b s t = s

-- the test passes at each number below n
pub at_below : (f : ℕ → Bool) (n : ℕ) → T (below f n) → (k : ℕ) → k < n → T (f k)
at_below f zero t k h = absurd (not-suc-le-zero h)
at_below f (suc n) t k h =
    ⊎_elim (λ e. subst (λ (m : ℕ). T (f m)) (sym e) (and_left (f n) (below f n) t))
    (λ l. at_below f n (and_right (f n) (below f n) t) k l)
    (eq-or-lt_of_le (le_of_suc-le-suc h))

-- what is claimed of each number below n
pub each_below {ℓ} : (P : ℕ → Type ℓ) (n : ℕ) → EachBelow P n → (k : ℕ) → k < n → P k
each_below P zero all k h = absurd (not-suc-le-zero h)
each_below P (suc n) all k h =
    ⊎_elim (λ e. subst P (sym e) all.0) (λ l. each_below P n all.1 k l) (eq-or-lt_of_le (le_of_suc-le-suc h))

-- two functions that are seen to agree below n
pub eq_below : (f g : ℕ → ℕ) (n : ℕ) → T (below (λ k. eqb (f k) (g k)) n) → (k : ℕ) → k < n → f k ≡ g k
eq_below f g n t k h = eqb→eq (f k) (g k) (at_below (λ m. eqb (f m) (g m)) n t k h)

-- a number that is at least n and isn't n is above it: what the last arm of a match knows, number by number
pub past : {k : ℕ} (n : ℕ) → n ≤ k → (k ≡ n → ⊥) → suc n ≤ k
past n h ne = lt_of_le-ne h (λ e. ne (sym e))

-- two numbers are in one order or the other
pub by_order {ℓ} : {A : Type ℓ} (m n : ℕ) → (m ≤ n → A) → (n < m → A) → A
by_order {A = A} m n f g = go (leb m n) refl
  where
    go : (t : Bool) → leb m n ≡ t → A
    go true e = f (leb-true m n e)
    go false e = g (leb-false m n e)

-- two numbers are equal or not
pub by_equality {ℓ} : {A : Type ℓ} (m n : ℕ) → (m ≡ n → A) → ((m ≡ n → ⊥) → A) → A
by_equality {A = A} m n f g = go (eqb m n) refl
  where
    go : (t : Bool) → eqb m n ≡ t → A
    go true e = f (eqb-true m n e)
    go false e = g (eqb-false m n e)

-- tests of two equations that say the same
pub eqb_same : (m n p q : ℕ) → (m ≡ n → p ≡ q) → (p ≡ q → m ≡ n) → eqb m n ≡ eqb p q
eqb_same m n p q f g =
    by_equality p q (λ e. eq-eqb m n (g e) ∙ sym (eq-eqb p q e)) (λ ne. ne_eqb m n (λ e. ne (f e)) ∙ sym (ne_eqb p q ne))
