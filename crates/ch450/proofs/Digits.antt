-- The digits that there are.
--     digit_range     a digit number that passes the test is 2 to 7
-- Assumes nothing.
use mathlib.Core.Path.{◌≡◌, sym, subst}
use mathlib.Core.Bool.{true}
use Prim.Native.Nat.{ℕ, ◌≤◌}
use lib.Dec.{T, leb, leb→le}
use Rattle.base.proofs.Tests.{and_left, and_right}
use Rattle.ch450.specs.Commands.{is_digit}

pub digit_range : (dig : ℕ) → is_digit dig ≡ true → (2 ≤ dig) × (dig ≤ 7)
digit_range dig e =
    let t : T (is_digit dig) = subst T (sym e) tt in
    (leb→le 2 dig (and_left (leb 2 dig) (leb dig 7) t), leb→le dig 7 (and_right (leb 2 dig) (leb dig 7) t))
