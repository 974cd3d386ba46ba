-- Chains that pass the tests that come first in every entry, and what the entries then do.
--     tests_pass               1 to 8 chips and valid records pass
--     start_valid              a started chain is valid
--     start_done               1 to 8 chips are started
--     scan_valid               a scan leaves valid records valid
--     play_done, scan_done     neither `play` nor `scan` then refuses
--     block_done               nor does `block`, where its list is long enough
-- Assumes nothing.
use mathlib.Core.Path.{◌≡◌, refl, ap₂, ◌∙◌}
use mathlib.Core.Bool.{Bool, true, false}
use mathlib.Core.List.{List, [], ◌∷◌}
use Prim.Native.Nat.{ℕ, zero, suc, ◌≤◌, ◌<◌}
use borrow.Author.Tests.{le-leb, lt-ltb}
use lib.Dec.{T, leb}
use lib.ListN.{length, get_or, set, replicate}
use Rattle.base.specs.Pick.{pick}
use Rattle.base.specs.Refusals.{Told, done, refused, Outcome, hands_back, once_tested}
use Rattle.base.proofs.Picks.{pick_yes}
use Rattle.base.proofs.Tests.{and_left, and_right, and_both, is_true}
use Rattle.chip.specs.declared.Chip.{Chip}
use Rattle.chip.specs.Record.{valid, reset_chip}
use Rattle.chip.specs.Scans.{scanned, recorded}
use Rattle.chip.proofs.Valid.{reset_valid, scanned_valid}
use Rattle.chain.specs.declared.Chain.{Chain}
use Rattle.chain.specs.Chain.{most, chip_count, all_valid, valid_chain, tested_of, checked_from, played}
use Rattle.chain.specs.Entries.{chip_at, with_chip, start_chain, started_of, played_of, scanned_of}
use Rattle.chain.specs.Blocks.{rises_in, block_of}

-- ---- the tests

-- two tests passed are no refusal
both_pass : (a b : Bool) → T a → T b → ◌≡◌ {A = Told (Unit {0})} (pick a (pick b (done tt) (refused 12 0)) (refused 3 0)) (done tt)
both_pass true true t u = refl
both_pass true false t u = absurd u
both_pass false b t u = absurd t

pub tests_pass : (n : ℕ) (ch : Chain) → T (chip_count n) → T (valid_chain n ch) → tested_of n ch ≡ done tt
unfolding tested_of
tests_pass n ch = both_pass (chip_count n) (valid_chain n ch)

-- ---- the start

resets_valid : (n many : ℕ) → T (all_valid n (replicate many reset_chip))
unfolding all_valid
resets_valid zero many = tt
resets_valid (suc n) zero = tt
resets_valid (suc n) (suc many) = and_both (valid reset_chip) (all_valid n (replicate many reset_chip)) reset_valid (resets_valid n many)

pub start_valid : (n : ℕ) → T (valid_chain n start_chain)
start_valid n = and_both (all_valid n (replicate most reset_chip)) true (resets_valid n most) tt

pub start_done : (n : ℕ) → T (chip_count n) → started_of n ≡ record { state = start_chain; told = done tt }
unfolding started_of
start_done n count = pick_yes _ _ (is_true (chip_count n) count)

-- ---- a scan

-- a record that is valid if the one before it was
valid_set : (n : ℕ) (cs : List Chip) (j : ℕ) (x d : Chip) → (T (valid (get_or cs j d)) → T (valid x)) → T (all_valid n cs) → T (all_valid n (set cs j x))
unfolding all_valid
valid_set zero cs j x d f v = v
valid_set (suc n) [] j x d f v = v
valid_set (suc n) (c ∷ cs) zero x d f v =
    and_both (valid x) (all_valid n cs) (f (and_left (valid c) (all_valid n cs) v)) (and_right (valid c) (all_valid n cs) v)
valid_set (suc n) (c ∷ cs) (suc j) x d f v =
    and_both (valid c) (all_valid n (set cs j x)) (and_left (valid c) (all_valid n cs) v)
    (valid_set n cs j x d f (and_right (valid c) (all_valid n cs) v))

pub scan_valid : (n j : ℕ) (bytes : List ℕ) (ch : Chain) → T (valid_chain n ch) → T (valid_chain n (with_chip j (scanned bytes (chip_at j ch)) ch))
scan_valid n j bytes ch v =
    and_both (all_valid n (set ch.chips j (scanned bytes (chip_at j ch)))) (leb ch.levels 7)
    (valid_set n ch.chips j (scanned bytes (chip_at j ch)) reset_chip (scanned_valid bytes (chip_at j ch))
    (and_left (all_valid n ch.chips) (leb ch.levels 7) v))
    (and_right (all_valid n ch.chips) (leb ch.levels 7) v)

-- ---- the entries

module _ (n : ℕ) (ch : Chain) (passed : tested_of n ch ≡ done tt) where
  pub play_done : (ss : List ℕ) → checked_from 0 ss ≡ done tt → played_of n ch ss ≡ record { state = played n ss ch; told = done tt }
  unfolding played_of
  play_done ss fine = ap₂ (λ t u. once_tested t ch (once_tested u ch (record { state = played n ss ch; told = done tt }))) passed fine

  pub scan_done : (j : ℕ) (bytes : List ℕ) → j < n
      → scanned_of n ch j bytes ≡ record { state = with_chip j (scanned bytes (chip_at j ch)) ch; told = done (recorded bytes (chip_at j ch)) }
  unfolding scanned_of
  scan_done j bytes h =
      ap₂ (λ t b. once_tested t ch (pick b (record { state = with_chip j (scanned bytes (chip_at j ch)) ch; told = done (recorded bytes (chip_at j ch)) }) (hands_back ch 2 0)))
      passed (lt-ltb j n h)

  pub block_done : (ss list : List ℕ) → checked_from 0 ss ≡ done tt → length (rises_in ch ss) ≤ length list
      → block_of n ch ss list ≡ record { state = played n ss ch; told = done (length (rises_in ch ss)) }
  unfolding block_of
  block_done ss list fine room =
      let plays : Outcome Chain ℕ = record { state = played n ss ch; told = done (length (rises_in ch ss)) } in
      ap₂ (λ t u. once_tested t ch (once_tested u ch (pick (leb (length (rises_in ch ss)) (length list)) plays (hands_back ch 8 0)))) passed fine
      ∙ pick_yes plays (hands_back ch 8 0) (le-leb (length (rises_in ch ss)) (length list) room)
