-- Room for more in the counts of a tally.
--     every_all                     a test of every element is std's
--     Rooms, rooms, rooms_back      what refusal 16's test says of a chip's four counts, and back
--     fits_parts, fits_both         of a tally: its chips and its codes
--     within_room                   the test as the code makes it
--     plus_room                     one more spends one
-- Assumes nothing.
use mathlib.Core.Path.{◌≡◌, refl, ap, ap₂, sym, ◌∙◌}
use mathlib.Core.List.{List, [], ◌∷◌}
use mathlib.Core.Bool.{Bool, true, ◌&&◌, and-eq-true_iff}
use Prim.Native.Nat.{ℕ, suc, ◌+◌, ◌-◌, ◌≤◌}
use native.Mathlib.Omega.{arith}
use borrow.Author.Tests.{leb-true, le-leb, lt-leb}
use Rattle.std.specs.List.{list_all}
use Rattle.base.proofs.Tests.{by_order}
use Rattle.tallies.specs.declared.Counts.{Counts}
use Rattle.tallies.specs.declared.Tally.{Tally}
use Rattle.tallies.specs.Counts.{plus}
use Rattle.tallies.specs.Parts.{AtMostOne, at_most, within}
use Rattle.base.specs.Below.{every}
use Rattle.tallies.specs.Tallies.{largest_count, has_room, have_room, fits}
use Rattle.base.proofs.Every.{every_alike}

every_all : {A : Type 0} (test : A → Bool) (xs : List A) → every test xs ≡ list_all test xs
unfolding every
every_all test [] = refl
every_all test (x ∷ xs) = ap (λ b. test x && b) (every_all test xs)

-- each of the four plus so many isn't above the largest
pub record Rooms (m : ℕ) (c : Counts) : Type 0 where
  pub recorded : c.recorded + m ≤ largest_count
  pub read : c.read + m ≤ largest_count
  pub overwritten : c.overwritten + m ≤ largest_count
  pub cleared : c.cleared + m ≤ largest_count

pub rooms : (m : ℕ) (c : Counts) → have_room m c ≡ true → Rooms m c
rooms m c e =
    let p = (and-eq-true_iff (has_room m c.recorded && has_room m c.read && has_room m c.overwritten) (has_room m c.cleared)).0 e in
    let q = (and-eq-true_iff (has_room m c.recorded && has_room m c.read) (has_room m c.overwritten)).0 p.0 in
    let r = (and-eq-true_iff (has_room m c.recorded) (has_room m c.read)).0 q.0 in
    record {
      recorded = leb-true (c.recorded + m) largest_count r.0;
      read = leb-true (c.read + m) largest_count r.1;
      overwritten = leb-true (c.overwritten + m) largest_count q.1;
      cleared = leb-true (c.cleared + m) largest_count p.1;
    }

pub rooms_back : (m : ℕ) (c : Counts) → Rooms m c → have_room m c ≡ true
rooms_back m c r = λ i.
    le-leb (c.recorded + m) largest_count r.recorded i && le-leb (c.read + m) largest_count r.read i && le-leb (c.overwritten + m) largest_count r.overwritten i && le-leb (c.cleared + m) largest_count r.cleared i

pub fits_parts : (m : ℕ) (t : Tally) → fits m t ≡ true → (every (have_room m) t.chips ≡ true) × (every (has_room m) t.codes ≡ true)
unfolding fits
fits_parts m t e = (and-eq-true_iff (every (have_room m) t.chips) (every (has_room m) t.codes)).0 e

pub fits_both : (m : ℕ) (t : Tally) → every (have_room m) t.chips ≡ true → every (has_room m) t.codes ≡ true → fits m t ≡ true
unfolding fits
fits_both m t p q = ap₂ ◌&&◌ p q

-- ---- the test as the code makes it: at most the largest less so many

one_within : (m : ℕ) → m ≤ largest_count → (x : ℕ) → at_most (largest_count - m) x ≡ has_room m x
one_within m h x =
    by_order x (largest_count - m) (λ l. le-leb x (largest_count - m) l ∙ sym (le-leb (x + m) largest_count (omega arith)))
    (λ l. lt-leb x (largest_count - m) l ∙ sym (lt-leb (x + m) largest_count (omega arith)))

four_within : (m : ℕ) → m ≤ largest_count → (c : Counts) → within (largest_count - m) c ≡ have_room m c
four_within m h c = λ i.
    one_within m h c.recorded i && one_within m h c.read i && one_within m h c.overwritten i && one_within m h c.cleared i

pub within_room : (m : ℕ) (t : Tally) → m ≤ largest_count
    → (list_all (within (largest_count - m)) t.chips && list_all (at_most (largest_count - m)) t.codes) ≡ fits m t
unfolding fits
within_room m t h =
    ap₂ ◌&&◌
    (sym (every_all (within (largest_count - m)) t.chips) ∙ every_alike (within (largest_count - m)) (have_room m) t.chips (four_within m h))
    (sym (every_all (at_most (largest_count - m)) t.codes) ∙ every_alike (at_most (largest_count - m)) (has_room m) t.codes (one_within m h))

-- ---- one more spends one

pub plus_room : (m : ℕ) (c d : Counts) → AtMostOne d → have_room (suc m) c ≡ true → have_room m (plus c d) ≡ true
plus_room m c d few e =
    let r = rooms (suc m) c e in
    rooms_back m (plus c d)
    (record {
      recorded = omega (arith, r.recorded, few.recorded);
      read = omega (arith, r.read, few.read);
      overwritten = omega (arith, r.overwritten, few.overwritten);
      cleared = omega (arith, r.cleared, few.cleared);
    })
