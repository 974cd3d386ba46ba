-- Demand 1, the exact table, for the library's five functions for a panel of CH452 chips: each answer says by its first two numbers what the
-- table says, specs/ChainNumbers.antt.
--     chip_tests                     12: the numbers of a chip
--     told_panel                     an entry of a chain, of a panel lent as numbers
--     start_says, block_says,
--     scan_says, lit_says, sees_says the five functions
-- Assumes nothing.
use mathlib.Core.Path.{refl, sym, subst}
use mathlib.Core.Bool.{Bool, false, ◌&&◌}
use mathlib.Core.Logic.{◌⊎◌, inl, inr}
use mathlib.Core.List.{List, [], ◌∷◌, ◌++◌}
use Prim.Native.Nat.{ℕ, ◌+◌, ◌<◌}
use native.Mathlib.Omega.{arith}
use lib.Dec.{leb}
use lib.ListN.{get_or}
use Rattle.base.specs.Below.{below, EachBelow}
use Rattle.base.specs.Bits.{bit_value}
use Rattle.base.specs.Pick.{pick}
use Rattle.base.specs.Refusals.{Told, done, refused, Outcome, once_tested}
use Rattle.base.proofs.Tests.{each_below}
use Rattle.chip.specs.Record.{blank}
use Rattle.chip.specs.Scans.{Recording}
use Rattle.chain.specs.Blocks.{block_of}
use Rattle.chain.specs.Entries.{started_of, scanned_of, segments_of, seen_of}
use Rattle.zhaqsumir.specs.Numbers.{number_or0}
use Rattle.zhaqsumir.specs.Panels.{chip_mosts, chip_fits_at, chip_fits, from_chip, count_in, chip_fits_in, tested_in, chain_of, StartsNumbers, block_in, BlocksNumbers, scan_by, scanned_in, ScansNumbers, lit_numbers, sees_numbers}
use Rattle.demands.specs.Exact.{Row, row, Exactly, SaysExactly, NoneOf}
use Rattle.demands.specs.Refusals.{NotOneToMost, ListShort, UnheldChain}
use Rattle.demands.specs.Tables.{sample_row, sample_rows, start_table}
use Rattle.demands.specs.ChainNumbers.{TooLarge, register, latch, readout, setting, shown, sleeping, digit, interrupt, last_scan, TooLargePanel, panel_table, chip_numbers_table, block_numbers_table}
use Rattle.demands.proofs.ByTable.{ByTable, here, later, by_table}
use Rattle.demands.proofs.Conditions.{Tests, passed, failed, same_tests, leb_tests, neither, both_tests, count_tests}
use Rattle.demands.proofs.ExactLibrary.{none_append, none_each, says_exactly}
use Rattle.demands.proofs.ExactPanels.{below_tests}
use Rattle.demands.proofs.ExactChain.{start_exact, sees_by_table, block_by_table, scan_by_table, segments_by_table}

-- ---- 12, of the numbers

module _ (ns : List ℕ) where
  -- the number at a place is above its most
  abbrev Over : ℕ → Type 0
  Over j = get_or chip_mosts j 0 < get_or ns j 0

  -- the places, the last one's first
  over : EachBelow (λ j. Over j → TooLarge ns) 25
  over = (
    last_scan,
    (
      interrupt,
      (
        digit 8 (omega arith),
        (
          digit 7 (omega arith),
          (
            digit 6 (omega arith),
            (
              digit 5 (omega arith),
              (
                digit 4 (omega arith),
                (
                  digit 3 (omega arith),
                  (
                    digit 2 (omega arith),
                    (
                      digit 1 (omega arith),
                      (
                        digit 0 (omega arith),
                        (
                          sleeping,
                          (
                            shown 2 (omega arith),
                            (
                              shown 1 (omega arith),
                              (
                                shown 0 (omega arith),
                                (
                                  setting 5 (omega arith),
                                  (
                                    setting 4 (omega arith),
                                    (
                                      setting 3 (omega arith),
                                      (
                                        setting 2 (omega arith),
                                        (
                                          setting 1 (omega arith),
                                          (setting 0 (omega arith), (readout 1 (omega arith), (readout 0 (omega arith), (latch, (register, tt))))),
                                        ),
                                      ),
                                    ),
                                  ),
                                ),
                              ),
                            ),
                          ),
                        ),
                      ),
                    ),
                  ),
                ),
              ),
            ),
          ),
        ),
      ),
    ),
  )

  -- so many places from one on have one most
  readouts : EachBelow (λ j. 255 < get_or ns (2 + j) 0 → Over (2 + j)) 2
  readouts = ((λ h. h), ((λ h. h), tt))

  settings : EachBelow (λ j. 1 < get_or ns (4 + j) 0 → Over (4 + j)) 6
  settings = ((λ h. h), ((λ h. h), ((λ h. h), ((λ h. h), ((λ h. h), ((λ h. h), tt))))))

  showns : EachBelow (λ j. 255 < get_or ns (10 + j) 0 → Over (10 + j)) 3
  showns = ((λ h. h), ((λ h. h), ((λ h. h), tt)))

  digits : EachBelow (λ j. 255 < get_or ns (14 + j) 0 → Over (14 + j)) 9
  digits = ((λ h. h), ((λ h. h), ((λ h. h), ((λ h. h), ((λ h. h), ((λ h. h), ((λ h. h), ((λ h. h), ((λ h. h), tt)))))))))

  from_large : TooLarge ns → (j : ℕ) × (j < 25) × Over j
  from_large (register h) = (0, omega arith, h)
  from_large (latch h) = (1, omega arith, h)
  from_large (readout j l h) = (2 + j, omega arith, each_below (λ j. 255 < get_or ns (2 + j) 0 → Over (2 + j)) 2 readouts j l h)
  from_large (setting j l h) = (4 + j, omega arith, each_below (λ j. 1 < get_or ns (4 + j) 0 → Over (4 + j)) 6 settings j l h)
  from_large (shown j l h) = (10 + j, omega arith, each_below (λ j. 255 < get_or ns (10 + j) 0 → Over (10 + j)) 3 showns j l h)
  from_large (sleeping h) = (13, omega arith, h)
  from_large (digit j l h) = (14 + j, omega arith, each_below (λ j. 255 < get_or ns (14 + j) 0 → Over (14 + j)) 9 digits j l h)
  from_large (interrupt h) = (23, omega arith, h)
  from_large (last_scan h) = (24, omega arith, h)

  pub chip_tests : Tests (TooLarge ns) (chip_fits ns)
  unfolding chip_fits
  chip_tests =
      same_tests (λ y. each_below (λ j. Over j → TooLarge ns) 25 over y.0 y.1 y.2) from_large
      (below_tests Over (chip_fits_at ns) (λ j. leb_tests (get_or ns j 0) (get_or chip_mosts j 0)) 25)

panel_tests : (ns : List ℕ) → Tests (TooLargePanel ns) (leb (get_or ns 1 0) 255 && below (chip_fits_in ns) (count_in ns))
panel_tests ns =
    both_tests (leb_tests (get_or ns 1 0) 255)
    (below_tests (λ k. TooLarge (from_chip k ns)) (chip_fits_in ns) (λ k. chip_tests (from_chip k ns)) (count_in ns))

-- ---- an entry of a chain, after the tests of the numbers

-- numbers that fit leave it to the chain that they stand for
merged : {A : Type 0} {t : Told A} {N F U : Type 0} {rows : List Row} → (F → ⊥) → ByTable t (row 3 N ∷ row 12 U ∷ rows) → ByTable t (row 3 N ∷ row 12 (F ⊎ U) ∷ rows)
merged m (here g e) = here g e
merged m (later n (here u e)) = later n (here (inr u) e)
merged m (later n (later k y)) = later n (later (neither m k) y)

after_tests : {S A : Type 0} (given : S) (next : Outcome S A) {N F U : Type 0} {rows : List Row} {a b : Bool} → Tests N a → Tests F b
    → ByTable next.told (row 3 N ∷ row 12 U ∷ rows)
    → ByTable (once_tested (pick a (pick b (done tt) (refused 12 0)) (refused 3 0)) given next).told (row 3 N ∷ row 12 (F ⊎ U) ∷ rows)
after_tests given next (failed g) t y = here g refl
after_tests given next (passed n) (failed f) y = later n (here (inl f) refl)
after_tests given next (passed n) (passed m) y = merged m y

pub told_panel : {S A : Type 0} (ns : List ℕ) (given : S) (next : Outcome S A) {rows : List Row}
    → ByTable next.told (row 3 (NotOneToMost (count_in ns)) ∷ row 12 (UnheldChain (count_in ns) (chain_of ns)) ∷ rows)
    → ByTable (once_tested (tested_in ns) given next).told (panel_table ns ++ rows)
unfolding tested_in
told_panel ns given next y = after_tests given next (count_tests (count_in ns)) (panel_tests ns) y

-- ---- the five functions

pub start_says : (n : ℕ) (ns answer ns' : List ℕ) → StartsNumbers n ns answer ns' → SaysExactly answer (start_table n)
start_says n ns answer ns' starts =
    subst (λ xs. SaysExactly xs (start_table n)) (sym starts.numbers) (says_exactly (started_of n).told [] (start_table n) (start_exact n) ((λ e. omega arith), tt))

pub block_says : (ns samples list answer ns' list' : List ℕ) → BlocksNumbers ns samples list answer ns' list'
    → SaysExactly answer (block_numbers_table ns samples list)
block_says ns samples list answer ns' list' blocks =
    let t = (block_in ns samples list).told in
    subst (λ xs. SaysExactly xs (block_numbers_table ns samples list)) (sym blocks.numbers)
    (says_exactly t (number_or0 t ∷ []) (block_numbers_table ns samples list)
    (by_table (told_panel ns (chain_of ns) (block_of (count_in ns) (chain_of ns) samples list) (block_by_table (count_in ns) (chain_of ns) samples list))) (
      (λ e. omega arith),
      (
        (λ e. omega arith),
        none_append (sample_rows samples) (row 8 (ListShort (chain_of ns) samples list) ∷ []) 0 (none_each sample_row 0 (λ k s. ((λ e. omega arith), tt)) 0 samples)
            ((λ e. omega arith), tt),
      ),
    ))

-- no refusal of these has the number 0
none_0 : (ns : List ℕ) (k : ℕ) → NoneOf 0 (chip_numbers_table ns k)
none_0 ns k = ((λ e. omega arith), ((λ e. omega arith), ((λ e. omega arith), tt)))

pub scan_says : (ns : List ℕ) (k : ℕ) (bytes answer ns' : List ℕ) → ScansNumbers ns k bytes answer ns' → SaysExactly answer (chip_numbers_table ns k)
scan_says ns k bytes answer ns' scans =
    subst (λ xs. SaysExactly xs (chip_numbers_table ns k)) (sym scans.numbers) (go (scanned_in ns k bytes).told exact)
  where
    exact : Exactly (scanned_in ns k bytes).told (chip_numbers_table ns k)
    exact = by_table (told_panel ns (chain_of ns) (scanned_of (count_in ns) (chain_of ns) k bytes) (scan_by_table (count_in ns) (chain_of ns) k bytes))

    go : (t : Told Recording) → Exactly t (chip_numbers_table ns k) → SaysExactly (scan_by t) (chip_numbers_table ns k)
    go (done what) y = says_exactly (done what) _ (chip_numbers_table ns k) y (none_0 ns k)
    go (refused number place) y = says_exactly {A = Recording} (refused number place) _ (chip_numbers_table ns k) y (none_0 ns k)

pub lit_says : (ns : List ℕ) (k : ℕ) → SaysExactly (lit_numbers ns k) (chip_numbers_table ns k)
lit_says ns k =
    let o = once_tested (tested_in ns) blank (segments_of (count_in ns) (chain_of ns) k) in
    says_exactly o.told o.state (chip_numbers_table ns k)
    (by_table (told_panel ns blank (segments_of (count_in ns) (chain_of ns) k) (segments_by_table (count_in ns) (chain_of ns) k)))
    (none_0 ns k)

pub sees_says : (ns : List ℕ) → SaysExactly (sees_numbers ns) (panel_table ns)
sees_says ns =
    let o = once_tested (tested_in ns) false (seen_of (count_in ns) (chain_of ns)) in
    says_exactly o.told (bit_value o.state ∷ []) (panel_table ns)
    (by_table (told_panel ns false (seen_of (count_in ns) (chain_of ns)) (sees_by_table (count_in ns) (chain_of ns))))
    ((λ e. omega arith), ((λ e. omega arith), tt))
