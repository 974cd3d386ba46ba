-- One scan counted: what it adds to a tally is what it recorded, of its chip and of that code.
--     one_scan     a scan of a chip below N
-- Assumes nothing.
use mathlib.Core.Path.{◌≡◌, refl, ap, sym, ◌∙◌}
use mathlib.Core.Bool.{Bool, true, false, false≢true}
use mathlib.Core.List.{List, [], ◌∷◌, ◌++◌}
use Prim.Native.Nat.{ℕ, ◌+◌, ◌≤◌, ◌<◌}
use native.Mathlib.Nat.{add-zero, lt_of_lt_of_le}
use lib.Dec.{eqb, ltb}
use borrow.Author.Tests.{eqb-true, lt-ltb}
use Rattle.base.specs.Bits.{bit_value}
use Rattle.base.specs.Pick.{pick}
use Rattle.chip.specs.Scans.{Recording, recorded}
use Rattle.chip.specs.History.{is_key, times, scan}
use Rattle.chain.specs.declared.Chain.{Chain}
use Rattle.chain.specs.Chain.{most}
use Rattle.chain.specs.Entries.{chip_at}
use Rattle.chain.specs.Events as Events
use Rattle.chain.specs.Events.{Event}
use Rattle.tallies.specs.declared.Counts.{Counts}
use Rattle.tallies.specs.declared.Tally.{Tally}
use Rattle.tallies.specs.Counts.{no_counts, plus, record_counts, counts_of}
use Rattle.tallies.specs.Parts.{codes_after, scanned_tally}
use Rattle.tallies.specs.Tallies.{each_place, own_history, counts_at, times_in, added}
use Rattle.tallies.proofs.Places.{place_same}
use Rattle.tallies.proofs.Steps.{plus_none}
use Rattle.tallies.proofs.Sums.{sum_same, sum_at}

module _ (n k : ℕ) (h : k < n) (few : n ≤ most) (bytes : List ℕ) (ch : Chain) where
  abbrev one : List Event
  one = Events.scan k bytes ∷ []

  abbrev what : Recording
  what = recorded bytes (chip_at k ch)

  -- the chip that is scanned is below N
  below_so : (j : ℕ) → eqb k j ≡ true → ltb j n ≡ true
  below_so j e = ap (λ i. ltb i n) (sym (eqb-true k j e)) ∙ lt-ltb k n h

  counts_one : (j : ℕ) → counts_at n one ch j ≡ pick (eqb k j) (record_counts what) no_counts
  unfolding counts_of
  counts_one j = go (eqb k j) (ltb j n) refl refl
    where
      go : (b below : Bool) → eqb k j ≡ b → ltb j n ≡ below
          → counts_of (pick below (pick b (scan bytes ∷ []) [] ++ []) []) (chip_at j ch) ≡ pick b (record_counts what) no_counts
      go true true e l =
          plus_none (record_counts (recorded bytes (chip_at j ch))) ∙ ap (λ i. record_counts (recorded bytes (chip_at i ch))) (sym (eqb-true k j e))
      go true false e l = absurd (false≢true (sym l ∙ below_so j e))
      go false true e l = refl
      go false false e l = refl

  times_one : (code j : ℕ) → times code (own_history j n one ch) (chip_at j ch) ≡ pick (eqb k j) (bit_value (is_key code what)) 0
  times_one code j = go (eqb k j) (ltb j n) refl refl
    where
      go : (b below : Bool) → eqb k j ≡ b → ltb j n ≡ below
          → times code (pick below (pick b (scan bytes ∷ []) [] ++ []) []) (chip_at j ch) ≡ pick b (bit_value (is_key code what)) 0
      go true true e l =
          add-zero (bit_value (is_key code (recorded bytes (chip_at j ch)))) ∙ ap (λ i. bit_value (is_key code (recorded bytes (chip_at i ch)))) (sym (eqb-true k j e))
      go true false e l = absurd (false≢true (sym l ∙ below_so j e))
      go false true e l = refl
      go false false e l = refl

  pub one_scan : (t : Tally) → added n one ch t ≡ scanned_tally k what t
  unfolding added scanned_tally codes_after
  one_scan t = λ i. record { chips = chips i; codes = codes i; largest = t.largest }
    where
      either : (x : Counts) (b : Bool) → plus x (pick b (record_counts what) no_counts) ≡ pick b (plus x (record_counts what)) x
      either x true = refl
      either x false = plus_none x

      chips : each_place (λ j x. plus x (counts_at n one ch j)) 0 t.chips ≡ each_place (λ j x. pick (eqb k j) (plus x (record_counts what)) x) 0 t.chips
      chips =
          place_same (λ j x. plus x (counts_at n one ch j)) (λ j x. pick (eqb k j) (plus x (record_counts what)) x)
          (λ j x. ap (plus x) (counts_one j) ∙ either x (eqb k j)) 0 t.chips

      codes : each_place (λ code x. x + times_in n one ch code) 0 t.codes ≡ each_place (λ code x. x + bit_value (is_key code what)) 0 t.codes
      codes =
          place_same (λ code x. x + times_in n one ch code) (λ code x. x + bit_value (is_key code what))
          (λ code x.
          ap (λ y. x + y)
          (sum_same (λ j. times code (own_history j n one ch) (chip_at j ch)) (λ j. pick (eqb k j) (bit_value (is_key code what)) 0) (times_one code) most
          ∙ sum_at (bit_value (is_key code what)) k most (lt_of_lt_of_le h few)))
          0 t.codes
