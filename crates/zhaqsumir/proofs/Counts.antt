-- A tally as numbers.
--     all_places       a list is its elements, place by place
--     place_at         the value at one of so many places; places_length, how many there are
--     chips_flat       the four counts of each chip, one after another
--     chips_back       the counts that 32 numbers stand for have these numbers
--     tally_numbers    what `count` answers, told by numbers
-- Assumes nothing.
use mathlib.Core.Path.{◌≡◌, refl, ap, ◌∙◌}
use mathlib.Core.List.{List, [], ◌∷◌, ◌++◌, map}
use Prim.Native.Nat.{ℕ, zero, suc, ◌<◌}
use native.Mathlib.Nat.{suc_inj, not-suc-le-zero, le_of_suc-le-suc}
use native.Mathlib.Omega.{arith}
use lib.ListN.{length, get_or}
use Rattle.std.specs.List.{flat_map}
use Rattle.tallies.specs.declared.Counts.{Counts}
use Rattle.tallies.specs.Counted.{counted_of}
use Rattle.zhaqsumir.specs.Numbers.{number_in, place_in, chips_in, chip_numbers, TalliesNumbers}
use Rattle.base.specs.Refusals.{tells, handed}
use Rattle.base.specs.declared.Handed.{Handed}
use Rattle.tallies.specs.declared.Tally.{Tally}

-- the values at so many places
abbrev pub at_places : {A : Type 0} → (ℕ → A) → ℕ → List A
at_places f zero = []
at_places f (suc n) = f 0 ∷ at_places (λ k. f (suc k)) n

pub place_at : {A : Type 0} (f : ℕ → A) (n k : ℕ) (d : A) → k < n → get_or (at_places f n) k d ≡ f k
place_at f zero k d h = absurd (not-suc-le-zero h)
place_at f (suc n) zero d h = refl
place_at f (suc n) (suc k) d h = place_at (λ j. f (suc j)) n k d (le_of_suc-le-suc h)

pub places_length : {A : Type 0} (f : ℕ → A) (n : ℕ) → length (at_places f n) ≡ n
places_length f zero = refl
places_length f (suc n) = ap suc (places_length (λ k. f (suc k)) n)

pub all_places : {A : Type 0} (d : A) (n : ℕ) (xs : List A) → length xs ≡ n → at_places (λ k. get_or xs k d) n ≡ xs
all_places d zero [] e = refl
all_places d (suc n) [] e = let z : 0 ≡ suc n = e in absurd (omega arith)
all_places d zero (x ∷ xs) e = let z : suc (length xs) ≡ 0 = e in absurd (omega arith)
all_places d (suc n) (x ∷ xs) e = ap (λ ys. x ∷ ys) (all_places d n xs (suc_inj e))

-- a chip's four counts
abbrev pub four : Counts → List ℕ
four c = chip_numbers (c ∷ [])

abbrev pub no_counts : Counts
no_counts = record { recorded = 0; read = 0; overwritten = 0; cleared = 0 }

pub chips_flat : (cs : List Counts) → flat_map (λ x. x) (map four cs) ≡ chip_numbers cs
chips_flat [] = refl
chips_flat (c ∷ cs) = ap (λ ns. four c ++ ns) (chips_flat cs)

pub chips_back : (numbers : List ℕ) → length numbers ≡ 32 → chip_numbers (chips_in numbers) ≡ numbers
chips_back numbers e = all_places 0 32 numbers e

pub tally_numbers : {text cs ts counts answer : List ℕ} {n : ℕ} {chips : List Counts} (r : Handed Tally (Unit {0})) → chips ≡ chips_in cs
    → handed r ≡ counted_of (record { chips = chips; codes = ts; largest = n }) text
    → answer ≡ number_in (tells r.answer) ∷ place_in (tells r.answer) ∷ [] → counts ≡ chip_numbers r.value.chips
    → TalliesNumbers text cs ts n answer counts r.value.codes r.value.largest
tally_numbers {text} {ts = ts} {n = n} r from counted answer counts =
    let said = counted ∙ ap (λ x. counted_of (record { chips = x; codes = ts; largest = n }) text) from in
    let told = ap (λ o. o.told) said in
    record {
      numbers = answer ∙ ap (λ t. number_in t ∷ place_in t ∷ []) told;
      chips = counts ∙ ap (λ o. chip_numbers o.state.chips) said;
      codes = ap (λ o. o.state.codes) said;
      largest = ap (λ o. o.state.largest) said;
    }
