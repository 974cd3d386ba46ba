-- Refusal 1's test of samples, whatever the highest is.
--     check_first       it tells of the first sample above that
--     checked_below     samples that passed it are at most that
--     below_checked     and such samples pass it
-- Assumes nothing.
use mathlib.Core.Path.{◌≡◌, refl, ap, sym, ◌∙◌}
use mathlib.Core.List.{List, [], ◌∷◌}
use Prim.Native.Nat.{ℕ, suc}
use native.Mathlib.Nat.{le_of_suc-le-suc}
use native.Mathlib.Numerals.{add-one}
use native.Mathlib.Omega.{arith}
use lib.Dec.{leb, ltb}
use borrow.Author.Tests.{le-leb, lt-leb, le-ltb, lt-ltb, leb-true}
use Rattle.std.proofs.Common.{Option, Some, None, position, suc-le-suc}
use Rattle.std.proofs.lemmas.Iterator.Adapters.{position_from-zero}
use Rattle.std.specs.List.{position_from}
use Rattle.base.specs.Below.{AllBelow}
use Rattle.base.specs.Refusals.{Told, done, refused}
use Rattle.base.specs.Samples.{checked_from}
use Rattle.base.proofs.Picks.{pick_yes, pick_cases}
use Rattle.base.proofs.Tests.{by_order}

-- what the first place of a sample that is too high tells
abbrev pub told_first : Option ℕ → Told (Unit {0})
told_first None = done tt
told_first (Some place) = refused 1 place

check_from : (most place : ℕ) (ss : List ℕ) → checked_from most place ss ≡ told_first (position_from (ltb most) place ss)
check_from most place [] = refl
check_from most place (s ∷ ss) =
    by_order s most (λ low. rw (le-leb s most low, le-ltb most s low, add-one) (check_from most (suc place) ss))
    (λ high. rw (lt-leb s most high, lt-ltb most s high) refl)

pub check_first : (most : ℕ) (ss : List ℕ) → checked_from most 0 ss ≡ told_first (position (ltb most) ss)
check_first most ss = check_from most 0 ss ∙ ap told_first (sym (position_from-zero (ltb most) ss))

pub checked_below : (most place : ℕ) (ss : List ℕ) → checked_from most place ss ≡ done tt → AllBelow (suc most) ss
checked_below most place [] e = tt
checked_below most place (s ∷ ss) e =
    pick_cases (λ x. x ≡ done tt → AllBelow (suc most) (s ∷ ss)) (leb s most)
    (λ h c. (suc-le-suc (leb-true s most h), checked_below most (suc place) ss c))
    (λ h c. let z : ◌≡◌ {A = ℕ} 0 1 = cc in absurd (omega arith))
    e

pub below_checked : (most place : ℕ) (ss : List ℕ) → AllBelow (suc most) ss → checked_from most place ss ≡ done tt
below_checked most place [] a = refl
below_checked most place (s ∷ ss) a = pick_yes _ _ (le-leb s most (le_of_suc-le-suc a.0)) ∙ below_checked most (suc place) ss a.1
