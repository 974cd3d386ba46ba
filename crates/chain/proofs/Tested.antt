-- What the tests that come first tell.
--     tested_done             a chain that passed has 1 to 8 chips and valid records
--     at_chip                 the tests of an entry that names a chip, as one
--     with_samples            the tests of an entry that plays samples, as one
-- Assumes nothing.
use mathlib.Core.Path.{◌≡◌, refl, sym, subst}
use mathlib.Core.Bool.{Bool, true, false}
use mathlib.Core.List.{List}
use Prim.Native.Nat.{ℕ, ◌≤◌}
use lib.Dec.{T, leb, ltb, leb→le}
use Rattle.base.specs.Pick.{pick}
use Rattle.base.specs.Refusals.{Told, IsDone, done, refused, Outcome, hands_back, once_tested, then_tested}
use Rattle.base.proofs.Tests.{and_left, and_right}
use Rattle.base.proofs.Refusals.{both_tested}
use Rattle.chain.specs.declared.Chain.{Chain}
use Rattle.chain.specs.Chain.{most, chip_count, valid_chain, tested_of, checked_from, tested_at, tested_with}

both_passed : (a b : Bool) → IsDone {A = Unit {0}} (pick a (pick b (done tt) (refused 12 0)) (refused 3 0)) → T a × T b
both_passed true true t = (tt, tt)
both_passed true false t = absurd t
both_passed false b t = absurd t

pub tested_done : (n : ℕ) (ch : Chain) → tested_of n ch ≡ done tt → T (chip_count n) × T (valid_chain n ch)
unfolding tested_of
tested_done n ch e = both_passed (chip_count n) (valid_chain n ch) (subst IsDone (sym e) tt)

pub count_low : (n : ℕ) → T (chip_count n) → 1 ≤ n
count_low n t = leb→le 1 n (and_left (leb 1 n) (leb n most) t)

pub count_high : (n : ℕ) → T (chip_count n) → n ≤ most
count_high n t = leb→le n most (and_right (leb 1 n) (leb n most) t)

pub at_chip : {S A : Type 0} (n : ℕ) (ch : Chain) (k : ℕ) (given : S) (next : Outcome S A)
    → once_tested (tested_of n ch) given (pick (ltb k n) next (hands_back given 2 0)) ≡ once_tested (tested_at n ch k) given next
at_chip {S} {A} n ch k given next = go (tested_of n ch) (ltb k n)
  where
    go : (t : Told (Unit {0})) (b : Bool)
        → once_tested {S = S} {A = A} t given (pick b next (hands_back given 2 0)) ≡ once_tested (then_tested t (pick b (done tt) (refused 2 0))) given next
    go (done u) true = refl
    go (done u) false = refl
    go (refused number place) b = refl

pub with_samples : {S A : Type 0} (n : ℕ) (ch : Chain) (ss : List ℕ) (given : S) (next : Outcome S A)
    → once_tested (tested_of n ch) given (once_tested (checked_from 0 ss) given next) ≡ once_tested (tested_with n ch ss) given next
with_samples n ch ss = both_tested (tested_of n ch) (checked_from 0 ss)
