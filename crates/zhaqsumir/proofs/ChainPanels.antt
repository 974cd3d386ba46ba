-- A chain's panel as 202 numbers, and back.
--     both_passed      a test of N, and another, that were passed
--     numbers_back     numbers that pass the tests come back from the chain that they stand for
--     no_samples       so a block of no samples changes no number
--     chain_back       the numbers of a chain whose records and levels are held pass the tests and stand for it
--     rows_length      the numbers of such records are 25 each
--     rest_stays       and those of the chips past them stay
--     first_places     the first n of as many values as a list has elements
-- Assumes nothing.
use mathlib.Core.Path.{◌≡◌, refl, ap, ap₂, sym, subst, ◌∙◌}
use mathlib.Core.Bool.{Bool, true, false, ◌&&◌}
use mathlib.Core.List.{List, [], ◌∷◌, ◌++◌, append_assoc}
use Prim.Native.Nat.{ℕ, zero, suc, ◌+◌, ◌*◌, ◌≤◌, ◌<◌}
use native.Mathlib.Nat.{not-suc-le-zero, le_of_suc-le-suc, le_refl, lt_of_lt_of_le, le_of_lt, mod-eq_of_lt}
use native.Mathlib.Omega.{arith}
use borrow.Author.Tests.{lt-ltb, le-leb}
use lib.Dec.{T, leb, leb→le}
use lib.ListN.{length, get_or, take, drop, length-append, length-drop, take-append-drop}
use lib.Seq.{length-take-le, take-add, drop-drop, drop_at}
use Rattle.base.specs.Below.{below}
use Rattle.base.specs.Lent.{laid}
use Rattle.base.specs.Pick.{pick}
use Rattle.base.specs.Refusals.{Told, IsDone, done, refused, Outcome, once_tested}
use Rattle.base.proofs.Picks.{pick_yes, pick_cases}
use Rattle.base.proofs.Tests.{is_true, and_left, and_right, at_below}
use Rattle.chip.specs.declared.Chip.{Chip}
use Rattle.chip.specs.Record.{reset_chip}
use Rattle.chain.specs.declared.Chain.{Chain}
use Rattle.chain.specs.Blocks.{rises_in, block_of}
use Rattle.chain.specs.Chain.{chip_count, checked_from, tested_of, played}
use Rattle.chip.proofs.Held.{HeldChip}
use Rattle.chain.proofs.Held.{AllHeld}
use Rattle.chain.proofs.Tested.{count_high}
use Rattle.zhaqsumir.specs.Panels.{chip_fits, byte_at, chip_of, record_numbers, from_chip, count_in, chip_fits_in, tested_in, record_in, chain_of, row_numbers, chain_numbers, panel_by, block_in, BlocksNumbers}
use Rattle.zhaqsumir.proofs.ChainRows.{rows_suc}
use Rattle.zhaqsumir.proofs.ChipNumbers.{places_front, numbers_front, chip_length, chip_fits_lem, chip_back}
use Rattle.zhaqsumir.proofs.Counts.{at_places, place_at}
use Rattle.zhaqsumir.proofs.Fitting.{below_each}

-- where chip k's numbers start, seen from chip 0's
from_first : (k : ℕ) (ns : List ℕ) → from_chip k ns ≡ drop (25 * k) (drop 2 ns)
from_first k ns = sym (drop-drop (25 * k) 2 ns)

-- ---- numbers to a chain and back

pub both_passed : (a b : Bool) (number : ℕ) → IsDone {A = Unit {0}} (pick a (pick b (done tt) (refused number 0)) (refused 3 0)) → T a × T b
both_passed true true number t = (tt, tt)
both_passed true false number t = absurd t
both_passed false b number t = absurd t

module _ (ns : List ℕ) (size : length ns ≡ 202) (passed : tested_in ns ≡ done tt) where
  tests : T (chip_count (count_in ns)) × T (leb (get_or ns 1 0) 255 && below (chip_fits_in ns) (count_in ns))
  unfolding tested_in
  tests = both_passed (chip_count (count_in ns)) (leb (get_or ns 1 0) 255 && below (chip_fits_in ns) (count_in ns)) 12 (subst IsDone (sym passed) tt)

  most_eight : count_in ns ≤ 8
  most_eight = count_high (count_in ns) tests.0

  -- the numbers of chip k
  chip_front : (k : ℕ) → k < count_in ns → record_numbers (get_or (chain_of ns).chips k reset_chip) ≡ take 25 (drop (25 * k) (drop 2 ns))
  unfolding chain_of
  chip_front k h =
      let few = most_eight in
      let room : 25 ≤ length (from_chip k ns) = omega (arith, length-drop (2 + 25 * k) ns) in
      let fits = is_true (chip_fits_in ns k) (at_below (chip_fits_in ns) (count_in ns) (and_right (leb (get_or ns 1 0) 255) (below (chip_fits_in ns) (count_in ns)) tests.1) k h) in
      ap record_numbers (place_at (record_in ns) 8 k reset_chip (lt_of_lt_of_le h few) ∙ pick_yes _ _ (lt-ltb k (count_in ns) h))
      ∙ numbers_front (from_chip k ns) room fits
      ∙ ap (take 25) (from_first k ns)

  -- of so many chips
  row_front : (k : ℕ) → k ≤ count_in ns → row_numbers k (chain_of ns).chips ≡ take (25 * k) (drop 2 ns)
  unfolding row_numbers chain_of
  row_front zero h = refl
  row_front (suc k) h =
      let few = most_eight in
      let eight : length (chain_of ns).chips ≡ 8 = refl in
      let more : 25 * k + 25 ≡ 25 * suc k = omega arith in
      rows_suc k (chain_of ns).chips reset_chip (lt_of_lt_of_le h few)
      ∙ ap₂ ◌++◌ (row_front k (le_of_lt h)) (chip_front k h)
      ∙ sym (take-add (25 * k) 25 (drop 2 ns))
      ∙ ap (λ m. take m (drop 2 ns)) more

  pub numbers_back : laid (chain_numbers (count_in ns) (count_in ns) (chain_of ns)) ns ≡ ns
  unfolding chain_of
  numbers_back =
      let few = most_eight in
      let n = count_in ns in
      let low = leb→le (get_or ns 1 0) 255 (and_left (leb (get_or ns 1 0) 255) (below (chip_fits_in ns) n) tests.1) in
      let levels : byte_at ns 1 ≡ get_or ns 1 0 = mod-eq_of_lt (omega arith) in
      let front : chain_numbers n n (chain_of ns) ≡ take (2 + 25 * n) ns = (λ i. n ∷ levels i ∷ row_front n (le_refl n) i) ∙ ap (λ xs. xs ++ take (25 * n) (drop 2 ns)) (places_front 2 ns (omega arith)) ∙ sym (take-add 2 (25 * n) ns) in
      ap (λ w. laid w ns) front
      ∙ ap (λ m. take (2 + 25 * n) ns ++ drop m ns) (length-take-le (2 + 25 * n) ns (omega arith))
      ∙ take-append-drop (2 + 25 * n) ns

-- the state after a test, where it is the state before it either way
state_once : {A : Type 0} (t : Told (Unit {0})) (ch : Chain) (o : Outcome Chain A) → o.state ≡ ch → (once_tested t ch o).state ≡ ch
state_once (done u) ch o e = e
state_once (refused number place) ch o e = refl

-- a block of no samples leaves the chain
none_played : (n : ℕ) (ch : Chain) (list : List ℕ) → (block_of n ch [] list).state ≡ ch
unfolding block_of checked_from played
none_played n ch list =
    state_once (tested_of n ch) ch _ (pick_cases (λ (o : Outcome Chain ℕ). o.state ≡ ch) (leb (length (rises_in ch [])) (length list)) (λ e. refl) (λ e. refl))

panel_same : (t : Told ℕ) (first ns : List ℕ) → laid first ns ≡ ns → panel_by t first ns ≡ ns
panel_same (done count) first ns e = e
panel_same (refused number place) first ns e = refl

pub no_samples : (ns list : List ℕ) {answer ns' list' : List ℕ} → length ns ≡ 202 → BlocksNumbers ns [] list answer ns' list' → ns' ≡ ns
no_samples ns list size b = b.panel ∙ go (tested_in ns) refl
  where
    go : (t : Told (Unit {0})) → tested_in ns ≡ t
        → panel_by (block_in ns [] list).told (chain_numbers (count_in ns) (count_in ns) (block_in ns [] list).state) ns ≡ ns
    go (done u) e =
        let state = state_once (tested_in ns) (chain_of ns) (block_of (count_in ns) (chain_of ns) [] list) (none_played (count_in ns) (chain_of ns) list) in
        panel_same (block_in ns [] list).told _ ns (ap (λ ch. laid (chain_numbers (count_in ns) (count_in ns) ch) ns) state ∙ numbers_back ns size e)
    go (refused number place) e =
        ap (λ t. panel_by (once_tested t (chain_of ns) (block_of (count_in ns) (chain_of ns) [] list)).told (chain_numbers (count_in ns) (count_in ns) (block_in ns [] list).state) ns) e

-- ---- a chain to numbers and back

-- what holds of a held record's numbers, whatever follows them, holds of the numbers of each
row_at : (P : List ℕ → Chip → Type 0) → ((c : Chip) → HeldChip c → (rest : List ℕ) → P (record_numbers c ++ rest) c)
    → (n k : ℕ) (cs : List Chip) (rest : List ℕ) → k < n → k < length cs → AllHeld n cs
    → P (drop (25 * k) (row_numbers n cs ++ rest)) (get_or cs k reset_chip)
unfolding row_numbers
row_at P each zero k cs rest h l held = absurd (not-suc-le-zero h)
row_at P each (suc n) k [] rest h l held = absurd (not-suc-le-zero l)
row_at P each (suc n) zero (c ∷ cs) rest h l held =
    subst (λ xs. P xs c) (sym (append_assoc (record_numbers c) (row_numbers n cs) rest)) (each c held.0 (row_numbers n cs ++ rest))
row_at P each (suc n) (suc k) (c ∷ cs) rest h l held =
    let tail = row_numbers n cs ++ rest in
    let more : 25 * suc k ≡ 25 + 25 * k = omega arith in
    let past = ap₂ drop more (append_assoc (record_numbers c) (row_numbers n cs) rest) ∙ sym (drop-drop (25 * k) 25 (record_numbers c ++ tail)) ∙ ap (drop (25 * k)) (drop_at (record_numbers c) tail 25 (chip_length c held.0)) in
    subst (λ xs. P xs (get_or cs k reset_chip)) (sym past) (row_at P each n k cs rest (le_of_suc-le-suc h) (le_of_suc-le-suc l) held.1)

pub rows_length : (n : ℕ) (cs : List Chip) → n ≤ length cs → AllHeld n cs → length (row_numbers n cs) ≡ 25 * n
unfolding row_numbers
rows_length zero cs l held = refl
rows_length (suc n) [] l held = absurd (not-suc-le-zero l)
rows_length (suc n) (c ∷ cs) l held =
    omega (arith, length-append (record_numbers c) (row_numbers n cs), chip_length c held.0, rows_length n cs (le_of_suc-le-suc l) held.1)

-- the first n of as many values as a list has elements
pub first_places : {A : Type 0} (f : ℕ → A) (n : ℕ) (xs : List A) (d : A) → ((k : ℕ) → k < n → k < length xs → f k ≡ get_or xs k d) → take n (at_places f (length xs)) ≡ take n xs
first_places f zero xs d each = refl
first_places f (suc n) [] d each = refl
first_places f (suc n) (x ∷ xs) d each =
    ap₂ ◌∷◌ (each 0 (omega arith) (omega arith)) (first_places (λ k. f (suc k)) n xs d (λ k h l. each (suc k) (omega arith) (omega arith)))

-- numbers that pass the tests and stand for a chain, in its first n records and its levels
pub record Stands (n : ℕ) (ch : Chain) (ns : List ℕ) : Type 0 where
  pub count : count_in ns ≡ n
  pub passed : tested_in ns ≡ done tt
  pub chips : take n (chain_of ns).chips ≡ take n ch.chips
  pub levels : (chain_of ns).levels ≡ ch.levels

module _ (n many : ℕ) (ch : Chain) (ns : List ℕ) (counts : T (chip_count n)) (within : n ≤ many) (size : length ch.chips ≡ 8) (low : ch.levels < 256)
    (held : AllHeld many ch.chips) where
  -- the panel after the numbers of so many records are put
  after : List ℕ
  after = laid (chain_numbers n many ch) ns

  -- what holds of a held record's numbers, whatever follows them, holds of those of each chip below N
  chip_after : (P : List ℕ → Chip → Type 0) → ((c : Chip) → HeldChip c → (rest : List ℕ) → P (record_numbers c ++ rest) c)
      → (k : ℕ) → k < n → P (from_chip k after) (get_or ch.chips k reset_chip)
  unfolding after
  chip_after P each k h =
      let few = count_high n counts in
      let rest = drop (length (chain_numbers n many ch)) ns in
      subst (λ xs. P xs (get_or ch.chips k reset_chip)) (sym (from_first k after)) (row_at P each many k ch.chips rest (omega arith) (omega arith) held)

  pub chain_back : Stands n ch (laid (chain_numbers n many ch) ns)
  unfolding after tested_in chain_of
  chain_back =
      let fits : (k : ℕ) → k < n → chip_fits_in after k ≡ true = λ k h. chip_after (λ xs c. chip_fits xs ≡ true) chip_fits_lem k h in
      let same : (k : ℕ) → k < n → record_in after k ≡ get_or ch.chips k reset_chip = λ k h. pick_yes _ _ (lt-ltb k n h) ∙ chip_after (λ xs c. chip_of xs ≡ c) chip_back k h in
      record {
        count = refl;
        passed = pick_yes _ _ (is_true (chip_count n) counts) ∙ pick_yes _ _ (ap₂ ◌&&◌ (le-leb ch.levels 255 (le_of_suc-le-suc low)) (below_each (chip_fits_in after) n fits));
        chips = ap (λ m. take n (at_places (record_in after) m)) (sym size) ∙ first_places (record_in after) n ch.chips reset_chip (λ k h l. same k h);
        levels = mod-eq_of_lt low;
      }

  pub rest_stays : many ≤ 8 → drop (2 + 25 * many) (laid (chain_numbers n many ch) ns) ≡ drop (2 + 25 * many) ns
  rest_stays few =
      let row = rows_length many ch.chips (omega arith) held in
      let all : length (chain_numbers n many ch) ≡ 2 + 25 * many = omega arith in
      drop_at (chain_numbers n many ch) (drop (length (chain_numbers n many ch)) ns) (2 + 25 * many) all ∙ ap (λ m. drop m ns) all
