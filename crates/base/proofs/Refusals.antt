-- A refusal's number and place say which refusal it is, so a promise that fixes both fixes the refusal; a number is a byte. And what
-- follows from an answer: `by_done`, `by_refusal`; of two tests `both_tested`.
-- Assumes nothing.
use mathlib.Core.Path.{◌≡◌, refl, ap, sym, ◌∙◌}
use Prim.Native.Nat.{ℕ, ◌<◌}
use native.Mathlib.Omega.{arith}
use mathlib.Core.List.{List, [], ◌∷◌}
use lib.ListN.{get_or}
use Rattle.base.specs.Refusals.{Told, number_of, place_of, done, refused, refused_by, Outcome, once_tested, then_tested, tells}
use Rattle.base.specs.declared.Refusal.{Refusal}
use Rattle.base.specs.declared.Refusal.TheVariants.{Sample, ScanChip, ChipCount, PartRow, Rows, Unlisted, Keypad, Room, Field, Line, Text, Record, LitSleep, Version, Setting, Count}
use Rattle.std.specs.declared.result.Result.{Result}
use Rattle.std.specs.declared.result.Result.TheVariants.{Ok, Err}

-- the refusals by their numbers, from 0 up; there is none with the number 0, and 16 stands for every number from there on
abbrev by_number : List (ℕ → Refusal)
by_number =
    (λ place. Record)
    ∷ Sample
    ∷ (λ place. ScanChip)
    ∷ (λ place. ChipCount)
    ∷ (λ place. PartRow)
    ∷ (λ place. Rows)
    ∷ Unlisted
    ∷ Keypad
    ∷ (λ place. Room)
    ∷ Field
    ∷ Line
    ∷ (λ place. Text)
    ∷ (λ place. Record)
    ∷ LitSleep
    ∷ Version
    ∷ Setting
    ∷ []

-- the refusal with a number and a place
pub refusal_of : ℕ → ℕ → Refusal
refusal_of number place = get_or by_number number Count place

pub number_small : (e : Refusal) → number_of e < 256
number_small (Sample place) = omega arith
number_small ScanChip = omega arith
number_small ChipCount = omega arith
number_small PartRow = omega arith
number_small Rows = omega arith
number_small (Unlisted place) = omega arith
number_small (Keypad place) = omega arith
number_small Room = omega arith
number_small (Field place) = omega arith
number_small (Line place) = omega arith
number_small Text = omega arith
number_small Record = omega arith
number_small (LitSleep place) = omega arith
number_small (Version place) = omega arith
number_small (Setting place) = omega arith
number_small (Count place) = omega arith

pub refusal_back : (e : Refusal) → refusal_of (number_of e) (place_of e) ≡ e
unfolding refusal_of
refusal_back (Sample place) = refl
refusal_back ScanChip = refl
refusal_back ChipCount = refl
refusal_back PartRow = refl
refusal_back Rows = refl
refusal_back (Unlisted place) = refl
refusal_back (Keypad place) = refl
refusal_back Room = refl
refusal_back (Field place) = refl
refusal_back (Line place) = refl
refusal_back Text = refl
refusal_back Record = refl
refusal_back (LitSleep place) = refl
refusal_back (Version place) = refl
refusal_back (Setting place) = refl
refusal_back (Count place) = refl

-- ---- an entry after a test that was passed, and after one that was not

pub by_done : {S A : Type 0} {v : Result (Unit {0}) Refusal} {t : Told (Unit {0})} (given : S) (next : Outcome S A) → tells v ≡ t → v ≡ (Ok tt) → once_tested t given next ≡ next
by_done given next e q = ap (λ x. once_tested x given next) (sym e ∙ ap tells q)

pub by_refusal : {S A : Type 0} {v : Result (Unit {0}) Refusal} {t : Told (Unit {0})} {r : Refusal} (given : S) (next : Outcome S A)
    → tells v ≡ t
    → v ≡ Err r
    → once_tested t given next ≡ record { state = given; told = refused_by r }
by_refusal given next e q = ap (λ x. once_tested x given next) (sym e ∙ ap tells q)

-- two tests one after the other are one
pub both_tested : {S A : Type 0} (t u : Told (Unit {0})) (given : S) (next : Outcome S A)
    → once_tested t given (once_tested u given next) ≡ once_tested (then_tested t u) given next
both_tested (done v) u given next = refl
both_tested (refused number place) u given next = refl

-- the second test where the first was passed, and the refusal where it was not
pub then_done : {v : Result (Unit {0}) Refusal} {t : Told (Unit {0})} (u : Told (Unit {0})) → tells v ≡ t → v ≡ (Ok tt) → then_tested t u ≡ u
then_done u e q = ap (λ x. then_tested x u) (sym e ∙ ap tells q)

pub then_refused : {v : Result (Unit {0}) Refusal} {t : Told (Unit {0})} {r : Refusal} (u : Told (Unit {0})) → tells v ≡ t → v ≡ Err r → then_tested t u ≡ refused_by r
then_refused u e q = ap (λ x. then_tested x u) (sym e ∙ ap tells q)
